-- Every number of a step fits 64 bits, and is the number of the definitions.
-- Assumes nothing.
use mathlib.Core.Path.{◌≡◌, refl, ap, ap₂}
use mathlib.Core.List.{List}
use Prim.Native.Nat.{ℕ, ◌+◌, ◌-◌, ◌*◌, ◌/◌, ◌≤◌, ◌<◌}
use native.Mathlib.Nat.{mul-le-mul_left, mul-le-mul_right, mul-le-mul, mul_comm, div-mul-le_self, le_of_mul-le-mul_right}
use native.Mathlib.Omega.{arith}
use lib.ListN.{get_or}
use Rattle.numbers.specs.Sums.{sum_to}
use Rattle.numbers.proofs.Sums.{sum_le, sum_has}
use Rattle.row.specs.declared.Rates.{Rates}
use Rattle.row.specs.Row.{unit, out, back}
use Rattle.row.specs.Limits.{RateLimits}
use Rattle.kinetics.specs.declared.State.{State}
use Rattle.kinetics.specs.declared.Divisors.{Divisors}
use Rattle.kinetics.specs.Step.{amount, compartment_divisor, returned, retained, inflow, divisor, solved_plasma, new_amount, burden_limit}
use Rattle.numbers.specs.Bounds.{Is}
use Rattle.numbers.proofs.Bounds.{is}
use Rattle.kinetics.specs.Internal.{Ready}
use Rattle.kinetics.proofs.DivisorMargin.{part_le, compartment_divisor_pos, back_le, retained_eq, divisor_pos}

half_le : (a b : ℕ) {e : ℕ} → 2 * b ≤ e → 0 < e → 2 * (a * b / e) ≤ a
half_le a b {e} h pos = le_of_mul-le-mul_right (omega (arith, div-mul-le_self (a * b) e, mul-le-mul_left a h)) pos

module _ {r : Rates} (lim : RateLimits r) {i : ℕ} (l : i < 6) where
  back_le_unit : back r i ≤ unit
  back_le_unit = omega (arith, lim.each i l)

  out_le : out r i ≤ 64 * unit
  out_le = omega (arith, lim.total, sum_has 6 (out r) i l)

  pub out-back_fits : out r i * back r i ≤ 64 * unit * unit
  out-back_fits = mul-le-mul out_le back_le_unit

  retained_small : retained r i ≤ 6_400_000_000
  retained_small = omega (arith, retained_eq r i, out_le)

  -- e is Ei
  pub retained_is : {e : ℕ} → e ≡ compartment_divisor r i → Is (retained r i) 6_400_000_000 (out r i - out r i * back r i / e)
  unfolding retained
  retained_is h = is (ap (λ (d : ℕ). out r i - out r i * back r i / d) h) retained_small

  twice_back : 2 * back r i ≤ compartment_divisor r i
  unfolding compartment_divisor
  twice_back = omega (arith, lim.each i l)

  -- at least half of ai is retained
  out_twice_retained : out r i ≤ 2 * retained r i
  out_twice_retained = omega (arith, retained_eq r i, half_le (out r i) (back r i) twice_back (compartment_divisor_pos r i))

  out_twice_divisor : out r i ≤ 2 * divisor r
  unfolding divisor
  out_twice_divisor = omega (arith, out_twice_retained, sum_has 6 (retained r) i l)

-- the six together
pub retained-sum_most : {r : Rates} → RateLimits r → sum_to 6 (retained r) ≤ 38_400_000_000
unfolding sum_to
retained-sum_most {r} lim = sum_le 6 (retained r) (λ i. 6_400_000_000) (λ i l. retained_small lim l)

unit_le_divisor : (r : Rates) (i : ℕ) → unit ≤ compartment_divisor r i
unfolding compartment_divisor
unit_le_divisor r i = omega arith

urine_le_divisor : (r : Rates) → r.urine ≤ divisor r
unfolding divisor
urine_le_divisor r = omega arith

returned_le_amount : (r : Rates) (lead : List ℕ) (i : ℕ) → returned r lead i ≤ amount lead i
unfolding returned
returned_le_amount r lead i = rw mul_comm (part_le (amount lead i) (back_le r i) (compartment_divisor_pos r i))

module _ {r : Rates} {q : Divisors} {s : State} {u : ℕ} (ready : Ready r q s u) where
  pub inflow_small : inflow r s.lead u ≤ burden_limit
  unfolding inflow
  inflow_small =
      omega (arith, sum_le 6 (returned r s.lead) (amount s.lead) (λ i l. returned_le_amount r s.lead i), ready.room)

  -- n is the inflow
  pub solved_plasma_is : {n : ℕ} → n ≡ inflow r s.lead u → n * unit / q.plasma ≡ solved_plasma r s.lead u
  unfolding solved_plasma
  solved_plasma_is h = ap₂ (λ (n d : ℕ). n * unit / d) h ready.divisors_of.plasma

  pub plasma_pos : 0 < q.plasma
  plasma_pos = omega (arith, ready.divisors_of.plasma, divisor_pos r)

  solved_times-divisor : solved_plasma r s.lead u * divisor r ≤ 5_000_000_000_000_000_000
  unfolding solved_plasma
  solved_times-divisor = omega (arith, div-mul-le_self (inflow r s.lead u * unit) (divisor r), inflow_small)

  pub urine_fits : {p : ℕ} → p ≡ solved_plasma r s.lead u → r.urine * p ≤ 7_500_000_000_000_000_000
  urine_fits h = rw h (omega (arith, solved_times-divisor, mul-le-mul_right (solved_plasma r s.lead u) (urine_le_divisor r)))

  module _ {i : ℕ} (l : i < 6) where
    pub amount_le : amount s.lead i ≤ burden_limit
    amount_le = omega (arith, sum_has 6 (amount s.lead) i l, ready.room)

    pub back-amount_fits : back r i * amount s.lead i ≤ 5_000_000_000_000_000_000
    back-amount_fits = mul-le-mul (back_le_unit ready.limits l) amount_le

    pub compartments_pos : 0 < get_or q.compartments i 0
    compartments_pos = omega (arith, ready.divisors_of.compartments i l, compartment_divisor_pos r i)

    returned_small : returned r s.lead i ≤ burden_limit
    returned_small = omega (arith, returned_le_amount r s.lead i, amount_le)

    pub returned_is : Is (returned r s.lead i) burden_limit (back r i * amount s.lead i / get_or q.compartments i 0)
    unfolding returned
    returned_is = is (ap (λ (d : ℕ). back r i * amount s.lead i / d) (ready.divisors_of.compartments i l)) returned_small

    pub inflow-at_fits : {p : ℕ} → p ≡ solved_plasma r s.lead u → amount s.lead i * unit + out r i * p ≤ 15_000_000_000_000_000_000
    inflow-at_fits h =
        rw h (omega (arith, amount_le, solved_times-divisor, mul-le-mul_right (solved_plasma r s.lead u) (out_twice_divisor ready.limits l)))

    new_amount_small : new_amount r s.lead (solved_plasma r s.lead u) i ≤ 150_000_000_000
    unfolding new_amount
    new_amount_small =
        let x = amount s.lead i * unit + out r i * solved_plasma r s.lead u in
        omega (
          arith,
          inflow-at_fits refl,
          div-mul-le_self x (compartment_divisor r i),
          mul-le-mul_left (x / compartment_divisor r i) (unit_le_divisor r i),
        )

    pub new_amount_is : {p : ℕ} → p ≡ solved_plasma r s.lead u
        → Is (new_amount r s.lead (solved_plasma r s.lead u) i) 150_000_000_000 ((amount s.lead i * unit + out r i * p) / get_or q.compartments i 0)
    unfolding new_amount
    new_amount_is h =
        is (ap₂ (λ (p d : ℕ). (amount s.lead i * unit + out r i * p) / d) h (ready.divisors_of.compartments i l)) new_amount_small
