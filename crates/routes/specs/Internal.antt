-- For the contracts between the functions: a month's sums by its exposure, and by a scenario and a table.
-- Assumes nothing.
use Rattle.std.specs.Prelude.{ℕ, List}
use Rattle.numbers.specs.Choice.{answer_by}
use Rattle.exposure.specs.declared.Exposure.{Exposure}
use Rattle.site.specs.declared.Scenario.{Scenario}
use Rattle.row.specs.Row.{row_of}
use Rattle.intake.specs.Intake.{intake_refusal}
use Rattle.uptake.specs.Routes.{day_routes}
use Rattle.child.specs.Month.{exposure_in, saturation_month}
use Rattle.routes.specs.declared.RouteSums.{RouteSums}
use Rattle.routes.specs.Sums.{sums_of, no_sums}

-- by an exposure and the body weights of the month and of the saturation's
unfoldable pub exposed_sums : Exposure → ℕ → ℕ → RouteSums
exposed_sums e weight weight24 = answer_by (intake_refusal e) (sums_of (day_routes e weight weight24)) (λ r. no_sums)

-- of month m, by a scenario and a table
unfoldable pub sums_in : Scenario → List ℕ → ℕ → RouteSums
sums_in scenario table m = exposed_sums (exposure_in scenario m) (row_of table m).body_weight (row_of table saturation_month).body_weight
