-- The day's uptake by its routes (document 02, [6]): the passive and the active one of each eaten medium, and the air's.
-- Assumes nothing.
use Rattle.std.specs.Prelude.{ℕ, ◌+◌, ◌≤◌, ◌<◌, List}
use Rattle.numbers.specs.Choice.{tab}
use Rattle.numbers.specs.Sums.{sum_to}
use Rattle.exposure.specs.declared.Exposure.{Exposure}
use Rattle.site.specs.Fields.{at}
use Rattle.uptake.specs.declared.Routes.{Routes}
use Rattle.uptake.specs.Uptake.{passive_uptake, active_uptake, air_uptake}

-- the day's uptake gives, of each eaten medium, its passive and its active part, and the air's
unfoldable pub day_routes : Exposure → ℕ → ℕ → Routes
day_routes e weight weight24 = record { passive = tab 5 (passive_uptake e); active = tab 5 (active_uptake e weight weight24); air = air_uptake e }

-- a gut route's sum: its parts of the five eaten media
unfoldable pub route_sum : List ℕ → ℕ
route_sum parts = sum_to 5 (at parts)

-- the eleven together
unfoldable pub routes_total : Routes → ℕ
routes_total r = route_sum r.passive + route_sum r.active + r.air

-- both parts of a medium together are at most 10^9, and so is the air's uptake
pub record RoutesLimits (r : Routes) : Type 0 where
  pub media : (medium : ℕ) → medium < 5 → at r.passive medium + at r.active medium ≤ 1_000_000_000
  pub air : r.air ≤ 1_000_000_000
