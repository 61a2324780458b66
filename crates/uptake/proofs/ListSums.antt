-- The sum of a list of five is that of its numbers by their places.
-- Assumes nothing.
use mathlib.Core.Path.{◌≡◌, refl, sym, ap, ◌∙◌}
use mathlib.Core.List.{List}
use Prim.Native.Nat.{ℕ, zero, suc, ◌+◌, ◌≤◌, ◌<◌}
use native.Mathlib.Omega.{arith}
use native.Mathlib.Numerals.{add-one}
use lib.ListN.{length, get_or, take}
use lib.Seq.{take_all}
use Rattle.std.specs.List.{sum}
use Rattle.std.proofs.lemmas.Grind.{common_steps}
use Rattle.numbers.specs.Sums.{sum_to}
use Rattle.site.specs.Fields.{at}
use Rattle.uptake.specs.Routes.{route_sum}

-- the sum of the first few numbers of a list
sum-front : (l : List ℕ) (i : ℕ) → i ≤ length l → sum (take i l) ≡ sum_to i (at l)
unfolding sum_to
sum-front l zero h = refl
sum-front l (suc i) h =
    let below : i < length l = omega arith in
    let front : sum (take i l) ≡ sum_to i (at l) = sum-front l i (omega arith) in
    let next : sum (take (i + 1) l) ≡ sum (take i l) + get_or l i 0 = grind (arith, common_steps) in
    rw (← add-one, next, front)

pub sum_parts : (parts : List ℕ) → length parts ≡ 5 → sum parts ≡ route_sum parts
unfolding route_sum
sum_parts parts long = sym (ap sum (take_all 5 parts (omega arith))) ∙ sum-front parts 5 (omega arith)
