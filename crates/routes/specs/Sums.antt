-- The sums of the two gut routes of each month's day, passive and active, in pg (document 02, [6]).
-- Assumes nothing.
use Rattle.std.specs.Prelude.{ℕ, suc, List, [], ◌∷◌}
use Rattle.numbers.specs.Choice.{tab, first_of, answer_by}
use Rattle.site.specs.declared.Scenario.{Scenario}
use Rattle.row.specs.Row.{last_month, row_of}
use Rattle.intake.specs.Intake.{intake_refusal}
use Rattle.uptake.specs.declared.Routes.{Routes}
use Rattle.uptake.specs.Routes.{day_routes, route_sum}
use Rattle.child.specs.Month.{exposure_in, saturation_month}
use Rattle.files.specs.Files.{Files, files_refusal, scenario_in, table_in}
use Rattle.routes.specs.declared.RouteSums.{RouteSums}
use Rattle.routes.specs.MonthlySums.{MonthlySums}

-- the day's routes in month m, by the exposure and the body weights that T of the month has
unfoldable pub month_routes : Scenario → List ℕ → ℕ → Routes
month_routes scenario table m = day_routes (exposure_in scenario m) (row_of table m).body_weight (row_of table saturation_month).body_weight

-- the sums of a day's two gut routes, of the five eaten media
abbrev pub sums_of : Routes → RouteSums
sums_of r = record { passive = route_sum r.passive; active = route_sum r.active }

-- those of month m's day, by its files
unfoldable pub month_sums : Files → ℕ → RouteSums
month_sums f m = sums_of (month_routes (scenario_in f) (table_in f) m)

-- why month m has none: its files are refused, or 9 refuses its intakes
abbrev pub sums_refusals : Files → ℕ → List ℕ
sums_refusals f m = files_refusal f ∷ intake_refusal (exposure_in (scenario_in f) m) ∷ []

unfoldable pub sums_refusal : Files → ℕ → ℕ
sums_refusal f m = first_of (sums_refusals f m)

-- zeros
abbrev pub no_sums : RouteSums
no_sums = record { passive = 0; active = 0 }

-- what is kept of month m: its sums, or zeros if it has none
unfoldable pub kept_sums : Files → ℕ → RouteSums
kept_sums f m = answer_by (sums_refusal f m) (month_sums f m) (λ r. no_sums)

-- months 1 to 84
unfoldable pub monthly_sums : Files → MonthlySums
monthly_sums f = record { passive = tab last_month (λ k. (kept_sums f (suc k)).passive); active = tab last_month (λ k. (kept_sums f (suc k)).active) }
