-- The divisors of the step against those of the exact solution: F × d is at least Q, and little more.
-- Assumes nothing.
use mathlib.Core.Path.{◌≡◌, ap, ◌∙◌}
use Prim.Native.Nat.{ℕ, ◌+◌, ◌*◌, ◌/◌, ◌≤◌, ◌<◌}
use native.Mathlib.Nat.{le_trans, mul-pos, mul-le-mul_left, div-mul-le_self, lt-div-mul-add, le_of_mul-le-mul_right, add-sub_of_le, mul_comm}
use native.Mathlib.Omega.{arith}
use Rattle.numbers.specs.Sums.{sum_to}
use Rattle.numbers.proofs.Sums.{weighted, prod_pos, weighted_add, weighted_is, part_whole, weigh_above, weigh_own, weigh_over}
use Rattle.row.specs.declared.Rates.{Rates}
use Rattle.row.specs.Row.{unit, out, back, exit}
use Rattle.row.specs.Limits.{RateLimits}
use Rattle.kinetics.specs.Step.{compartment_divisor, retained, divisor}
use Rattle.kinetics.specs.Solution.{product, product_over, denominator}

-- Ei - bi
unfoldable pub less_back : Rates → ℕ → ℕ
less_back r i = unit + exit r i

-- the sum of ai × (Ei - bi) × F/Ei
unfoldable pub net_out : Rates → ℕ
net_out r = weighted 6 (compartment_divisor r) (λ i. less_back r i * out r i)

-- a × b / e is at most a if b is at most e
pub part_le : {b e : ℕ} (a : ℕ) → b ≤ e → 0 < e → a * b / e ≤ a
part_le {b} {e} a h pos = le_of_mul-le-mul_right (le_trans (div-mul-le_self (a * b) e) (mul-le-mul_left a h)) pos

-- k = a - q with q = a × b / e, and no subtraction
retained_between : (e a b q k : ℕ) → q + k ≡ a → q * e ≤ a * b → a * b < q * e + e
    → (a * e ≤ e * k + a * b) × (e * k + a * b ≤ a * e + e)
retained_between e a b q k h low high = omega (arith, ap (λ (x : ℕ). x * e) h)

module _ (r : Rates) where
  pub compartment_divisor_pos : (i : ℕ) → 0 < compartment_divisor r i
  unfolding compartment_divisor
  compartment_divisor_pos i = omega arith

  pub divisor_pos : 0 < divisor r
  unfolding divisor
  divisor_pos = omega arith

  pub product_pos : 0 < product r
  unfolding product
  product_pos = prod_pos 6 (compartment_divisor r) (λ i l. compartment_divisor_pos i)

  -- F × D
  pub scale_pos : 0 < product r * unit
  scale_pos = mul-pos product_pos (omega arith)

  -- each F/Ei is whole
  pub product_over-whole : (i : ℕ) → i < 6 → compartment_divisor r i * product_over r i ≡ product r
  unfolding product product_over
  product_over-whole i l = part_whole 6 (compartment_divisor r) i l

  pub product_over-sum : (f : ℕ → ℕ) → sum_to 6 (λ i. f i * product_over r i) ≡ weighted 6 (compartment_divisor r) f
  unfolding product product_over
  product_over-sum f = weighted_is 6 (compartment_divisor r) f (λ i l. compartment_divisor_pos i)

  pub back_le : (i : ℕ) → back r i ≤ compartment_divisor r i
  unfolding compartment_divisor
  back_le i = omega arith

  pub retained_eq : (i : ℕ) → out r i * back r i / compartment_divisor r i + retained r i ≡ out r i
  unfolding retained
  retained_eq i = add-sub_of_le (part_le (out r i) (back_le i) (compartment_divisor_pos i))

  retained-at : (i : ℕ) → (out r i * compartment_divisor r i ≤ compartment_divisor r i * retained r i + out r i * back r i)
      × (compartment_divisor r i * retained r i + out r i * back r i ≤ out r i * compartment_divisor r i + compartment_divisor r i)
  retained-at i =
      retained_between (compartment_divisor r i) (out r i) (back r i) (out r i * back r i / compartment_divisor r i) (retained r i)
      (retained_eq i) (div-mul-le_self _ _) (lt-div-mul-add (compartment_divisor_pos i))

  out_split : (i : ℕ) → out r i * compartment_divisor r i ≡ less_back r i * out r i + out r i * back r i
  unfolding compartment_divisor less_back
  out_split i = omega arith

  retained_ge : net_out r ≤ product r * sum_to 6 (retained r)
  unfolding product net_out
  retained_ge = weigh_above 6 (compartment_divisor r) (retained r) _ (λ i l. omega (arith, retained-at i, out_split i))

  retained_le : product r * sum_to 6 (retained r) ≤ net_out r + 6 * product r
  unfolding product net_out
  retained_le = weigh_over 6 (compartment_divisor r) (retained r) _ (λ i l. omega (arith, retained-at i, out_split i))

  -- what Q subtracts, and what it leaves of the rates out
  pub out-sum : sum_to 6 (λ i. out r i * back r i * product_over r i) + net_out r ≡ product r * sum_to 6 (out r)
  unfolding net_out product
  out-sum =
      omega (
        arith,
        product_over-sum (λ i. out r i * back r i),
        weigh_own 6 (compartment_divisor r) (out r) _ (λ i l. mul_comm (compartment_divisor r i) (out r i) ∙ out_split i),
        weighted_add 6 (compartment_divisor r) (λ i. less_back r i * out r i) (λ i. out r i * back r i),
      )

  -- Q without its subtraction
  pub denominator_eq : denominator r ≡ product r * (unit + r.urine) + net_out r
  unfolding denominator
  denominator_eq = omega (arith, out-sum)

  -- Q less F × D
  pub denominator_rest : denominator r ≡ product r * unit + (product r * r.urine + net_out r)
  denominator_rest = omega (arith, denominator_eq)

  pub denominator_rest_le : RateLimits r → product r * r.urine + net_out r ≤ 64 * (product r * unit)
  denominator_rest_le lim = omega (arith, out-sum, mul-le-mul_left (product r) lim.total)

  pub divisor_ge : denominator r ≤ product r * divisor r
  unfolding divisor
  divisor_ge = omega (arith, denominator_eq, retained_ge)

  pub divisor_le : product r * divisor r ≤ denominator r + 6 * product r
  unfolding divisor
  divisor_le = omega (arith, denominator_eq, retained_le)
