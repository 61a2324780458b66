-- The state after a step, put together from what the calls answer.
-- Assumes nothing.
use mathlib.Core.Path.{◌≡◌, ap, ◌∙◌}
use mathlib.Core.List.{[], ◌∷◌}
use Prim.Native.Nat.{ℕ, ◌+◌, ◌-◌, ◌*◌, ◌/◌, ◌≤◌}
use native.Mathlib.Omega.{arith}
use Rattle.numbers.specs.Sums.{sum_to}
use Rattle.row.specs.declared.Rates.{Rates}
use Rattle.row.specs.Row.{unit}
use Rattle.kinetics.specs.declared.State.{State}
use Rattle.kinetics.specs.Step.{burden, liver, other, solved_plasma, new_amount, urine_exit, compartment_exit, exits, new_plasma, next_lead, urine_ledger, faeces_ledger, skin_ledger, next}
use Rattle.kinetics.proofs.Balance.{never_cut_off}

-- what the calls of a step give: t all the lead there is, p, the new amounts m1 to m6, and the exits x, y and z
pub record Parts (r : Rates) (s : State) (u : ℕ) : Type 0 where
  pub t : ℕ
  pub p : ℕ
  pub m1 : ℕ
  pub m2 : ℕ
  pub m3 : ℕ
  pub m4 : ℕ
  pub m5 : ℕ
  pub m6 : ℕ
  pub x : ℕ
  pub y : ℕ
  pub z : ℕ
  pub total : t ≡ burden s.lead + u
  pub solved : p ≡ solved_plasma r s.lead u
  pub new1 : m1 ≡ new_amount r s.lead (solved_plasma r s.lead u) 0
  pub new2 : m2 ≡ new_amount r s.lead (solved_plasma r s.lead u) 1
  pub new3 : m3 ≡ new_amount r s.lead (solved_plasma r s.lead u) 2
  pub new4 : m4 ≡ new_amount r s.lead (solved_plasma r s.lead u) 3
  pub new5 : m5 ≡ new_amount r s.lead (solved_plasma r s.lead u) 4
  pub new6 : m6 ≡ new_amount r s.lead (solved_plasma r s.lead u) 5
  pub urine : x ≡ r.urine * p / unit
  pub faeces : y ≡ r.faeces * m2 / unit
  pub skin : z ≡ r.skin * m4 / unit

abbrev amount_sum : {r : Rates} {s : State} {u : ℕ} → Parts r s u → ℕ
amount_sum h = h.m1 + h.m2 + h.m3 + h.m4 + h.m5 + h.m6

module _ {r : Rates} {s : State} {u : ℕ} (h : Parts r s u) where
  urine_is : h.x ≡ urine_exit r (solved_plasma r s.lead u)
  unfolding urine_exit
  urine_is = h.urine ∙ ap (λ (n : ℕ). r.urine * n / unit) h.solved

  faeces_is : h.y ≡ compartment_exit r s.lead (solved_plasma r s.lead u) liver
  unfolding compartment_exit
  faeces_is = h.faeces ∙ ap (λ (n : ℕ). r.faeces * n / unit) h.new2

  skin_is : h.z ≡ compartment_exit r s.lead (solved_plasma r s.lead u) other
  unfolding compartment_exit
  skin_is = h.skin ∙ ap (λ (n : ℕ). r.skin * n / unit) h.new4

  -- no subtraction of point 4 is cut off
  pub parts_within_total : amount_sum h + (h.x + h.y + h.z) ≤ h.t
  unfolding sum_to exits
  parts_within_total = omega (arith, never_cut_off r s.lead u, urine_is, faeces_is, skin_is)

  plasma_is : h.t - amount_sum h - (h.x + h.y + h.z) ≡ new_plasma r s.lead u
  unfolding sum_to new_plasma exits
  plasma_is = omega (arith, urine_is, faeces_is, skin_is)

  pub parts_make_next : ◌≡◌ {A = State}
      (record {
        month = s.month;
        lead = (h.t - amount_sum h - (h.x + h.y + h.z)) ∷ h.m1 ∷ h.m2 ∷ h.m3 ∷ h.m4 ∷ h.m5 ∷ h.m6 ∷ [];
        ledgers = (urine_ledger s + h.x) ∷ (faeces_ledger s + h.y) ∷ (skin_ledger s + h.z) ∷ [];
      })
      (next r s u)
  unfolding next next_lead exits
  parts_make_next = λ i.
      record {
        month = s.month;
        lead = plasma_is i ∷ h.new1 i ∷ h.new2 i ∷ h.new3 i ∷ h.new4 i ∷ h.new5 i ∷ h.new6 i ∷ [];
        ledgers = (urine_ledger s + urine_is i) ∷ (faeces_ledger s + faeces_is i) ∷ (skin_ledger s + skin_is i) ∷ [];
      }
