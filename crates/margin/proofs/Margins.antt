-- New P against the exact solution: F × D × new P + p × (Q - F × D) is N and all the remainders, which are at most 10 × F × D.
-- Assumes nothing.
use mathlib.Core.Path.{◌≡◌, ap, sym}
use mathlib.Core.List.{List}
use Prim.Native.Nat.{ℕ, ◌+◌, ◌-◌, ◌*◌, ◌≤◌, ◌<◌}
use native.Mathlib.Nat.{le_of_lt, le_of_eq, mul-le-mul_left, mul-le-mul_right, mod-lt, le_of_mul-le-mul_left, add-sub_of_le, zero-mod, zero-mul}
use native.Mathlib.Omega.{arith}
use Rattle.numbers.specs.Sums.{sum_to}
use Rattle.numbers.proofs.Sums.{weigh_above}
use Rattle.row.specs.declared.Rates.{Rates}
use Rattle.row.specs.Row.{unit, out}
use Rattle.row.specs.Limits.{RateLimits}
use Rattle.kinetics.specs.Step.{plasma, amount, compartment_divisor, solved_plasma, new_amount, new_plasma}
use Rattle.kinetics.specs.Solution.{product, denominator, numerator}
use Rattle.kinetics.proofs.DivisorMargin.{less_back, net_out, compartment_divisor_pos, denominator_rest, denominator_rest_le, scale_pos}
use Rattle.kinetics.proofs.Balance.{amount_remainder, exit_remainder, urine_remainder, net_remainder, remainders, solved_plasma_le, solved_plasma_ge, step_balance, new_plasma_eq}

module _ (r : Rates) (lead : List ℕ) (p : ℕ) where
  exit_remainder_sum : sum_to 6 (exit_remainder r lead p) ≤ 2 * unit
  unfolding sum_to exit_remainder
  exit_remainder_sum =
      simp (zero-mul, zero-mod)
      (omega (arith, mod-lt (r.faeces * new_amount r lead p 1) {m = unit} (omega arith), mod-lt (r.skin * new_amount r lead p 3) {m = unit} (omega arith)))

  urine_remainder_le : urine_remainder r p ≤ unit
  unfolding urine_remainder
  urine_remainder_le = le_of_lt (mod-lt (r.urine * p) {m = unit} (omega arith))

  net_remainder_le : net_remainder r lead p ≤ product r * sum_to 6 (less_back r)
  unfolding net_remainder product amount_remainder
  net_remainder_le =
      weigh_above 6 (compartment_divisor r) (less_back r) _
      (λ i l. omega (arith, mul-le-mul_left (less_back r i) (le_of_lt (mod-lt (amount lead i * unit + out r i * p) (compartment_divisor_pos r i)))))

  -- each c is at most D/2
  less_back_sum : RateLimits r → sum_to 6 (less_back r) ≤ 7 * unit
  unfolding sum_to less_back
  less_back_sum lim = omega arith

  remainders_le : RateLimits r → remainders r lead p ≤ 10 * (product r * unit)
  unfolding remainders
  remainders_le lim =
      omega (
        arith,
        net_remainder_le,
        mul-le-mul_left (product r) (less_back_sum lim),
        mul-le-mul_left (product r) exit_remainder_sum,
        mul-le-mul_left (product r) urine_remainder_le,
      )

-- K is F × D, S is Q - K, and X is N - p × Q
least_scaled : (K S Q N R p x : ℕ) → Q ≡ K + S → K * x + p * S ≡ N + R → p * Q ≤ N → 0 < K → N ≤ x * Q
least_scaled K S Q N R p x eQ id low pos =
    le_of_mul-le-mul_left
    (omega (arith, ap (λ (y : ℕ). y * Q) id, ap (λ (y : ℕ). N * y) eQ, mul-le-mul_right S low))
    pos

most_scaled : (K S Q N R p x X : ℕ) → Q ≡ K + S → K * x + p * S ≡ N + R → N ≡ p * Q + X → R ≤ 10 * K → S ≤ 64 * K → 0 < K
    → x * Q ≤ N + 10 * Q + 64 * X
most_scaled K S Q N R p x X eQ id eN hR hS pos =
    le_of_mul-le-mul_left
    (omega (arith, ap (λ (y : ℕ). y * Q) id, ap (λ (y : ℕ). N * y) eQ, ap (λ (y : ℕ). y * S) eN, mul-le-mul_right Q hR, mul-le-mul_left X hS))
    pos

module _ (r : Rates) (lead : List ℕ) (u : ℕ) where
  remainders_identity : product r * unit * new_plasma r lead u + solved_plasma r lead u * (product r * r.urine + net_out r)
      ≡ numerator r (plasma lead) (amount lead) u + remainders r lead (solved_plasma r lead u)
  remainders_identity = omega (arith, step_balance r lead u, ap (λ (x : ℕ). product r * unit * x) (new_plasma_eq r lead u))

  pub margin_least : numerator r (plasma lead) (amount lead) u ≤ new_plasma r lead u * denominator r
  margin_least = least_scaled _ _ _ _ _ _ _ (denominator_rest r) remainders_identity (solved_plasma_le r lead u) (scale_pos r)

  pub margin_most : RateLimits r
      → unit * (new_plasma r lead u * denominator r - numerator r (plasma lead) (amount lead) u)
      < 459 * unit * denominator r + 384 * numerator r (plasma lead) (amount lead) u
  margin_most lim =
      let p = solved_plasma r lead u in
      let short = numerator r (plasma lead) (amount lead) u - p * denominator r in
      let over_by =
      most_scaled _ _ _ _ _ _ _ short (denominator_rest r) remainders_identity (sym (add-sub_of_le (solved_plasma_le r lead u)))
      (remainders_le r lead p lim) (denominator_rest_le r lim) (scale_pos r) in
      omega (arith, over_by, solved_plasma_le r lead u, solved_plasma_ge r lead u, denominator_rest r, mul-le-mul_left p (le_of_eq (sym (denominator_rest r))))
