-- The day's routes: their sums are the parts' sums, T is all of them together, and how large they are.
-- Assumes nothing.
use mathlib.Core.Path.{◌≡◌, ap₂}
use mathlib.Core.List.{List}
use Prim.Native.Nat.{ℕ, ◌+◌, ◌≤◌, ◌<◌}
use native.Mathlib.Omega.{arith}
use Rattle.numbers.specs.Choice.{tab}
use Rattle.numbers.specs.Sums.{sum_to}
use Rattle.numbers.proofs.Every.{get_or-tab}
use Rattle.numbers.proofs.Sums.{sum_add, sum_le, sum_eq}
use Rattle.exposure.specs.declared.Exposure.{Exposure}
use Rattle.exposure.specs.Limits.{ExposureLimits}
use Rattle.site.specs.Fields.{at}
use Rattle.intake.specs.Intake.{intake_refusal}
use Rattle.intake.proofs.Refusal9.{air_most}
use Rattle.uptake.specs.declared.Routes.{Routes}
use Rattle.uptake.specs.Uptake.{passive_uptake, active_uptake, medium_uptake, day_uptake}
use Rattle.uptake.specs.Routes.{day_routes, route_sum, routes_total, RoutesLimits}
use Rattle.uptake.specs.Internal.{PartsLimits}
use Rattle.uptake.specs.Laws.{day_limit, routes_limit, RoutesLaw, RouteSumsLaw}
use Rattle.uptake.proofs.UptakeBounds.{medium_most, air_law}

-- the sum of five parts that are stored
pub sum_stored : (f : ℕ → ℕ) → route_sum (tab 5 f) ≡ sum_to 5 f
unfolding route_sum
sum_stored f = sum_eq 5 (at (tab 5 f)) f (get_or-tab 5 f)

-- a route's sum is at most five parts of 10^9, and so are both routes' sums if each medium's parts are together at most 10^9
pub sum_most : (parts : List ℕ) → PartsLimits parts → route_sum parts ≤ routes_limit
unfolding route_sum sum_to
sum_most parts small = sum_le 5 (at parts) (λ medium. 1_000_000_000) small

module _ {r : Routes} (limits : RoutesLimits r) where
  sums_most : route_sum r.passive + route_sum r.active ≤ routes_limit
  unfolding route_sum sum_to
  sums_most =
      omega (
        arith,
        sum_add 5 (at r.passive) (at r.active),
        sum_le 5 (λ medium. at r.passive medium + at r.active medium) (λ medium. 1_000_000_000) limits.media,
      )

  pub total_most : routes_total r ≤ day_limit
  unfolding routes_total
  total_most = omega (arith, sums_most, limits.air)

module _ (e : Exposure) (weight weight24 : ℕ) where
  -- a medium's two parts are its uptake
  both_parts : (medium : ℕ) → medium < 5
      → at (day_routes e weight weight24).passive medium + at (day_routes e weight weight24).active medium ≡ medium_uptake e weight weight24 medium
  unfolding day_routes medium_uptake
  both_parts medium l = ap₂ ◌+◌ (get_or-tab 5 (passive_uptake e) medium l) (get_or-tab 5 (active_uptake e weight weight24) medium l)

  pub routes_law : RoutesLaw e weight weight24
  unfolding routes_total day_routes day_uptake medium_uptake
  routes_law =
      omega (
        arith,
        sum_stored (passive_uptake e),
        sum_stored (active_uptake e weight weight24),
        sum_add 5 (passive_uptake e) (active_uptake e weight weight24),
      )

  pub routes_limits : ExposureLimits e → intake_refusal e ≡ 0 → RoutesLimits (day_routes e weight weight24)
  unfolding day_routes
  routes_limits lim passed =
      record {
        media = λ medium l. rw (both_parts medium l) (medium_most lim passed weight weight24 medium l);
        air = omega (arith, air_law e lim, air_most lim passed);
      }

  pub route_sums_law : RouteSumsLaw e weight weight24
  route_sums_law lim passed = sums_most (routes_limits lim passed)
