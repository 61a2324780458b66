-- The five q and their sum, as `Absorbable` holds them: what they are, and how large.
-- Assumes nothing.
use mathlib.Core.Path.{◌≡◌}
use mathlib.Core.List.{List}
use Prim.Native.Nat.{ℕ, ◌≤◌, ◌<◌}
use Rattle.numbers.specs.Choice.{tab}
use Rattle.numbers.proofs.Every.{get_or-tab}
use Rattle.exposure.specs.declared.Exposure.{Exposure}
use Rattle.site.specs.Fields.{at}
use Rattle.uptake.specs.declared.absorbable.Absorbable.{Absorbable}
use Rattle.uptake.specs.Uptake.{absorbable, absorbable_total}
use Rattle.uptake.specs.Routes.{route_sum}
use Rattle.uptake.proofs.RouteSums.{sum_stored}
use Rattle.uptake.proofs.UptakeBounds.{absorbable_most, total_most}

pub absorbable_sum : (e : Exposure) {media : List ℕ} → media ≡ tab 5 (absorbable e) → route_sum media ≡ absorbable_total e
unfolding absorbable_total
absorbable_sum e same = rw same (sum_stored (absorbable e))

module _ (q : Absorbable) where
  pub stored_is : (medium : ℕ) → medium < 5 → at q.media medium ≡ absorbable q.exposure.now.exposure medium
  stored_is medium l = rw q.own.listed (get_or-tab 5 (absorbable q.exposure.now.exposure) medium l)

  pub stored_most : (medium : ℕ) → medium < 5 → at q.media medium ≤ 1_000_000_000
  stored_most medium l = rw (stored_is medium l) (absorbable_most q.exposure.now.within q.passed medium l)

  pub stored_total_most : q.total ≤ 5_000_000_000
  stored_total_most = rw q.own.summed (total_most q.exposure.now.within q.passed)
