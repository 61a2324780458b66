-- The sums of a month as its line has them: those at its place, within their bound.
-- Assumes nothing.
use mathlib.Core.Path.{◌≡◌, sym, ap₂}
use mathlib.Core.List.{List}
use Prim.Native.Nat.{ℕ, ◌≤◌}
use native.Mathlib.Omega.{arith}
use lib.ListN.{get_or, get_or-map}
use Rattle.uptake.specs.Laws.{routes_limit}
use Rattle.routes.specs.declared.RouteSums.{RouteSums}
use Rattle.routes.specs.MonthlySums.{MonthlySums, by_route}
use Rattle.routes.specs.Sums.{no_sums}
use Rattle.routes.specs.Laws.{SumsWithin}
use Rattle.printout.specs.Lines.{sums_at}

-- the element at a place, zeros past the last, has the numbers of both lists there
pub sums_there : (sums : List RouteSums) (k : ℕ) → get_or sums k no_sums ≡ sums_at (by_route sums) k
unfolding sums_at
sums_there sums k =
    sym (ap₂ (λ (p a : ℕ). record { passive = p; active = a }) (get_or-map (λ (s : RouteSums). s.passive) sums k no_sums) (get_or-map (λ (s : RouteSums). s.active) sums k no_sums))

-- sums that are together within their bound at every place are each within it at one
pub columns_within : (sums : MonthlySums) (k : ℕ) → SumsWithin sums → {x : RouteSums} → x ≡ sums_at sums k → (x.passive ≤ routes_limit) × (x.active ≤ routes_limit)
unfolding sums_at
columns_within sums k within e =
    let both = within.together k in
    rw e (omega arith, omega arith)
