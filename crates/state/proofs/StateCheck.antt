-- Capped sums, of the seven compartments and of the three ledgers.
-- Assumes nothing.
use mathlib.Core.Path.{◌≡◌, ap, ◌∙◌}
use mathlib.Core.List.{List}
use Prim.Native.Nat.{ℕ, ◌≤◌, ◌<◌, min}
use native.Mathlib.Omega.{arith}
use lib.ListN.{length, get_or}
use Rattle.numbers.specs.Sums.{sum_to}
use Rattle.kinetics.specs.declared.State.{State}
use Rattle.kinetics.specs.Step.{burden, burden_limit}
use Rattle.state.specs.State.{ledger_sum}
use Rattle.state.specs.Internal.{cap}

-- x is the capped sum of a list of n numbers, which is t
capped_list : (l : List ℕ) {n t x : ℕ} → length l ≡ n → sum_to n (λ i. get_or l i 0) ≡ t → x ≡ min (sum_to (length l) (λ i. get_or l i 0)) cap → x ≡ min t cap
capped_list l en et ex = ex ∙ ap (λ (n : ℕ). min (sum_to n (λ i. get_or l i 0)) cap) en ∙ ap (λ (n : ℕ). min n cap) et

-- the seven compartments, and the three ledgers
pub capped_burden : (lead : List ℕ) {x : ℕ} → length lead ≡ 7 → x ≡ min (sum_to (length lead) (λ i. get_or lead i 0)) cap → x ≡ min (burden lead) cap
unfolding sum_to
capped_burden lead seven = capped_list lead seven (omega arith)

pub capped_ledgers : (a : State) {x : ℕ} → length a.ledgers ≡ 3 → x ≡ min (sum_to (length a.ledgers) (λ i. get_or a.ledgers i 0)) cap → x ≡ min (ledger_sum a) cap
unfolding sum_to
capped_ledgers a three = capped_list a.ledgers three (omega arith)

-- the burden's limit is below the cap, and so tests a capped sum as it tests the sum n
pub capped_over : (n : ℕ) {held : ℕ} → held ≡ min n cap → burden_limit < held → burden_limit < n
capped_over n e h = omega arith

pub capped_within : (n : ℕ) {held : ℕ} → held ≡ min n cap → held ≤ burden_limit → n ≤ burden_limit
capped_within n e h = omega arith
