-- The step's balance: point 4's subtraction is not cut off at 0, and no lead is lost or made. For all rates.
-- Assumes nothing.
use mathlib.Core.Path.{◌≡◌, ap}
use mathlib.Core.List.{List}
use Prim.Native.Nat.{ℕ, ◌+◌, ◌*◌, ◌%◌, ◌≤◌, ◌<◌}
use native.Mathlib.Nat.{mul-le-mul_left, mul-lt-mul_of_pos_left, div-add-mod', div-mul-le_self, lt-div-mul-add, le_of_mul-le-mul_left, zero-mul, zero-div}
use native.Mathlib.Omega.{arith}
use Rattle.numbers.specs.Sums.{sum_to}
use Rattle.numbers.proofs.Sums.{weighted, sum_add, sum_scale, weighted_add, weighted_scale, weigh_eq, weigh_below, weigh_under}
use Rattle.row.specs.declared.Rates.{Rates}
use Rattle.row.specs.Row.{unit, out, back, exit}
use Rattle.kinetics.specs.Step.{plasma, amount, burden, compartment_divisor, returned, inflow, divisor, solved_plasma, new_amount, urine_exit, compartment_exit, exits, exit_sum, new_plasma, next_lead}
use Rattle.kinetics.specs.Solution.{product, denominator, numerator}
use Rattle.kinetics.proofs.DivisorMargin.{less_back, net_out, compartment_divisor_pos, divisor_pos, product_pos, product_over-sum, denominator_rest, scale_pos, divisor_ge, divisor_le}

-- what the divisions of points 2 and 3 leave
unfoldable pub amount_remainder : Rates → List ℕ → ℕ → ℕ → ℕ
amount_remainder r lead p i = (amount lead i * unit + out r i * p) % compartment_divisor r i

unfoldable pub exit_remainder : Rates → List ℕ → ℕ → ℕ → ℕ
exit_remainder r lead p i = exit r i * new_amount r lead p i % unit

unfoldable pub urine_remainder : Rates → ℕ → ℕ
urine_remainder r p = r.urine * p % unit

-- the sum of bi × Mi × F/Ei, and of (Ei - bi) × remainder i × F/Ei
unfoldable net_return : Rates → List ℕ → ℕ
net_return r lead = weighted 6 (compartment_divisor r) (λ i. back r i * amount lead i)

unfoldable pub net_remainder : Rates → List ℕ → ℕ → ℕ
net_remainder r lead p = weighted 6 (compartment_divisor r) (λ i. less_back r i * amount_remainder r lead p i)

-- all the remainders of a step, scaled
unfoldable pub remainders : Rates → List ℕ → ℕ → ℕ
remainders r lead p = net_remainder r lead p + product r * (sum_to 6 (exit_remainder r lead p) + urine_remainder r p)

-- one compartment, from points 2 and 3: q and k their quotients, g and h their remainders
compartment_balance : (D a b c m p q g k h : ℕ) → q * (D + b + c) + g ≡ m * D + a * p → k * D + h ≡ c * q
    → (D + b + c) * (D * (q + k) + h) + (D * (b * m) + (D + c) * g) ≡ (D + b + c) * (D * m) + p * ((D + c) * a)
compartment_balance D a b c m p q g k h e₁ e₂ =
    omega (arith, ap (λ (x : ℕ). (D + c) * x) e₁, ap (λ (x : ℕ). (D + b + c) * x) e₂)

module _ (r : Rates) (lead : List ℕ) (p : ℕ) where
  balance_at : (i : ℕ) → i < 6
      → compartment_divisor r i * (unit * (new_amount r lead p i + compartment_exit r lead p i) + exit_remainder r lead p i)
      + (unit * (back r i * amount lead i) + less_back r i * amount_remainder r lead p i)
      ≡ compartment_divisor r i * (unit * amount lead i) + p * (less_back r i * out r i)
  unfolding compartment_divisor new_amount compartment_exit less_back amount_remainder exit_remainder
  balance_at i l =
      compartment_balance unit (out r i) (back r i) (exit r i) (amount lead i) p _ _ _ _ (div-add-mod' _ _) (div-add-mod' _ _)

  -- the six together
  six_balance : product r * (unit * (sum_to 6 (new_amount r lead p) + sum_to 6 (compartment_exit r lead p)) + sum_to 6 (exit_remainder r lead p))
      + (unit * net_return r lead + net_remainder r lead p)
      ≡ product r * (unit * sum_to 6 (amount lead)) + p * net_out r
  unfolding product net_return net_remainder net_out
  six_balance =
      simp (
        sum_add 6 (λ i. unit * (new_amount r lead p i + compartment_exit r lead p i)) (exit_remainder r lead p),
        sum_scale 6 unit (λ i. new_amount r lead p i + compartment_exit r lead p i),
        sum_add 6 (new_amount r lead p) (compartment_exit r lead p),
        sum_scale 6 unit (amount lead),
        weighted_add 6 (compartment_divisor r) (λ i. unit * (back r i * amount lead i)) (λ i. less_back r i * amount_remainder r lead p i),
        weighted_scale 6 unit (compartment_divisor r) (λ i. back r i * amount lead i),
        weighted_scale 6 p (compartment_divisor r) (λ i. less_back r i * out r i),
      ) at
      (weigh_eq 6 (compartment_divisor r) _ _ _ _ balance_at)

  -- only the liver and other have an exit
  exit-sum : sum_to 6 (compartment_exit r lead p) ≡ compartment_exit r lead p 1 + compartment_exit r lead p 3
  unfolding sum_to compartment_exit
  exit-sum = simp (zero-mul, zero-div) (omega arith)

  urine_divides : urine_exit r p * unit + urine_remainder r p ≡ r.urine * p
  unfolding urine_exit urine_remainder
  urine_divides = div-add-mod' (r.urine * p) unit

-- N without its divisions
numerator-sum : (r : Rates) (p : ℕ) (m : ℕ → ℕ) (u : ℕ)
    → numerator r p m u ≡ unit * (product r * (p + u) + weighted 6 (compartment_divisor r) (λ i. back r i * m i))
unfolding numerator
numerator-sum r p m u = ap (λ (x : ℕ). unit * (product r * (p + u) + x)) (product_over-sum r (λ i. back r i * m i))

-- on plain numbers: A and X the new amounts and their exits, Y the urine, I plasma and uptake, B the old amounts, and O, R, h what divisions leave
balance_scaled : (F D w T G N p A X O R Y h I B : ℕ)
    → F * (D * (A + X) + O) + (D * G + R) ≡ F * (D * B) + p * T
    → Y * D + h ≡ w * p → N ≡ D * (F * I + G)
    → (F * D) * (A + X + Y) + (R + F * (O + h)) + N ≡ (F * D) * (I + B) + p * (F * w + T)
balance_scaled F D w T G N p A X O R Y h I B bal urine eN = omega (arith, ap (λ (x : ℕ). F * x) urine)

module _ (r : Rates) (lead : List ℕ) (u : ℕ) where
  returned_le : product r * sum_to 6 (returned r lead) ≤ net_return r lead
  unfolding product net_return returned
  returned_le =
      weigh_below 6 (compartment_divisor r) (returned r lead) _
      (λ i l. omega (arith, div-mul-le_self (back r i * amount lead i) (compartment_divisor r i)))

  returned_ge : net_return r lead ≤ product r * sum_to 6 (returned r lead) + 6 * product r
  unfolding product net_return returned
  returned_ge =
      weigh_under 6 (compartment_divisor r) (returned r lead) _
      (λ i l. omega (arith, lt-div-mul-add {a = back r i * amount lead i} (compartment_divisor_pos r i)))

  numerator_eq : numerator r (plasma lead) (amount lead) u ≡ unit * (product r * (plasma lead + u) + net_return r lead)
  unfolding net_return
  numerator_eq = numerator-sum r (plasma lead) (amount lead) u

  inflow_le : product r * (inflow r lead u * unit) ≤ numerator r (plasma lead) (amount lead) u
  unfolding inflow
  inflow_le = omega (arith, numerator_eq, returned_le)

  inflow_ge : numerator r (plasma lead) (amount lead) u ≤ product r * (inflow r lead u * unit) + 6 * unit * product r
  unfolding inflow
  inflow_ge = omega (arith, numerator_eq, returned_ge)

  -- p × Q is at most N
  pub solved_plasma_le : solved_plasma r lead u * denominator r ≤ numerator r (plasma lead) (amount lead) u
  unfolding solved_plasma
  solved_plasma_le =
      omega (
        arith,
        inflow_le,
        mul-le-mul_left (solved_plasma r lead u) (divisor_ge r),
        mul-le-mul_left (product r) (div-mul-le_self (inflow r lead u * unit) (divisor r)),
      )

  -- and it falls short by little
  pub solved_plasma_ge : numerator r (plasma lead) (amount lead) u
      < solved_plasma r lead u * denominator r + denominator r + 6 * product r * solved_plasma r lead u + 6 * product r + 6 * unit * product r
  unfolding solved_plasma
  solved_plasma_ge =
      omega (
        arith,
        inflow_ge,
        mul-le-mul_left (solved_plasma r lead u) (divisor_le r),
        divisor_le r,
        mul-lt-mul_of_pos_left (lt-div-mul-add {a = inflow r lead u * unit} (divisor_pos r)) (product_pos r),
      )

  -- the step's balance, scaled by F × D
  pub step_balance : product r * unit * (sum_to 6 (new_amount r lead (solved_plasma r lead u)) + sum_to 6 (compartment_exit r lead (solved_plasma r lead u)) + urine_exit r (solved_plasma r lead u))
      + remainders r lead (solved_plasma r lead u)
      + numerator r (plasma lead) (amount lead) u
      ≡ product r * unit * (plasma lead + u + sum_to 6 (amount lead)) + solved_plasma r lead u * (product r * r.urine + net_out r)
  unfolding remainders
  step_balance =
      let p = solved_plasma r lead u in
      balance_scaled _ _ _ _ _ _ _ _ _ _ _ _ _ (plasma lead + u) _ (six_balance r lead p) (urine_divides r lead p) numerator_eq

  -- the new amounts and the exits are no more than there is
  pub never_cut_off : sum_to 6 (new_amount r lead (solved_plasma r lead u)) + exit_sum (exits r lead u) ≤ plasma lead + u + sum_to 6 (amount lead)
  unfolding exits
  never_cut_off =
      let p = solved_plasma r lead u in
      let spent : sum_to 6 (new_amount r lead p) + sum_to 6 (compartment_exit r lead p) + urine_exit r p ≤ plasma lead + u + sum_to 6 (amount lead) =
      le_of_mul-le-mul_left (omega (arith, step_balance, solved_plasma_le, ap (λ (x : ℕ). p * x) (denominator_rest r))) (scale_pos r) in
      omega (arith, spent, exit-sum r lead p)

  pub conservation : burden (next_lead r lead u) + exit_sum (exits r lead u) ≡ burden lead + u
  unfolding next_lead new_plasma sum_to
  conservation = omega (arith, never_cut_off)

  -- point 4, as a sum
  pub new_plasma_eq : new_plasma r lead u + sum_to 6 (new_amount r lead (solved_plasma r lead u)) + sum_to 6 (compartment_exit r lead (solved_plasma r lead u)) + urine_exit r (solved_plasma r lead u)
      ≡ plasma lead + u + sum_to 6 (amount lead)
  unfolding new_plasma exits
  new_plasma_eq = omega (arith, never_cut_off, exit-sum r lead (solved_plasma r lead u))
