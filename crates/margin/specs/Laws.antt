-- The laws of the exact solution and of a step.
-- Assumes nothing.
use Rattle.std.specs.Prelude.{◌≡◌, ℕ, ◌+◌, ◌*◌, ◌≤◌, ◌<◌, List}
use Rattle.numbers.specs.Sums.{sum_to}
use Rattle.row.specs.declared.Rates.{Rates}
use Rattle.row.specs.Row.{unit, out, back}
use Rattle.row.specs.Limits.{RateLimits}
use Rattle.kinetics.specs.declared.State.{State}
use Rattle.kinetics.specs.Step.{plasma, amount, burden, compartment_divisor, solved_plasma, new_amount, exits, exit_sum, next_lead, urine_ledger, faeces_ledger, skin_ledger, next}
use Rattle.kinetics.specs.Solution.{product, product_over, denominator}
use Rattle.margin.specs.Margin.{Margin}

-- the exact solution is a fraction: each F/Ei is whole, Q's subtraction is not cut off at 0, and Q is positive
pub record SolutionLaw (r : Rates) : Type 0 where
  pub over : (i : ℕ) → i < 6 → compartment_divisor r i * product_over r i ≡ product r
  pub whole : sum_to 6 (λ i. out r i * back r i * product_over r i) ≤ product r * (unit + r.urine + sum_to 6 (out r))
  pub positive : 0 < denominator r

abbrev pub SolutionLaws : Type 0
SolutionLaws = (r : Rates) → SolutionLaw r

-- the step on the seven compartments: point 4's subtraction is not cut off at 0, no lead is lost or made, and new P is within its margin
pub record LeadLaw (r : Rates) (lead : List ℕ) (u : ℕ) : Type 0 where
  pub whole : sum_to 6 (new_amount r lead (solved_plasma r lead u)) + exit_sum (exits r lead u) ≤ plasma lead + u + sum_to 6 (amount lead)
  pub conserved : burden (next_lead r lead u) + exit_sum (exits r lead u) ≡ burden lead + u
  pub margin : Margin r lead u (plasma (next_lead r lead u))

-- for all rates within their limits, from any amounts, with any uptake
abbrev pub LeadLaws : Type 0
LeadLaws = (r : Rates) (lead : List ℕ) (u : ℕ) → RateLimits r → LeadLaw r lead u

-- the step on a state: the month stays, and each ledger grows by its own exit
pub record StepLaw (r : Rates) (s : State) (u : ℕ) : Type 0 where
  pub month : (next r s u).month ≡ s.month
  pub lead : (next r s u).lead ≡ next_lead r s.lead u
  pub urine : urine_ledger (next r s u) ≡ urine_ledger s + (exits r s.lead u).urine
  pub faeces : faeces_ledger (next r s u) ≡ faeces_ledger s + (exits r s.lead u).faeces
  pub skin : skin_ledger (next r s u) ≡ skin_ledger s + (exits r s.lead u).skin
  pub law : LeadLaw r s.lead u

-- the same of any state
abbrev pub StepLaws : Type 0
StepLaws = (r : Rates) (s : State) (u : ℕ) → RateLimits r → StepLaw r s u
