-- Steps one after the other: they balance, and what a list of steps leaves.
-- Assumes nothing.
use Prim.Native.Nat.{ℕ, suc, ◌+◌, ◌≤◌}
use mathlib.Core.Path.{◌≡◌, refl, ap, ◌∙◌}
use mathlib.Core.List.{List, [], ◌∷◌}
use native.Mathlib.Omega.{arith}
use borrow.Author.Tests.{leb-true}
use lib.ListN.{length}
use Rattle.numbers.specs.Lists.{total_of}
use Rattle.numbers.proofs.Refusals.{or_else_none, unless_none}
use Rattle.row.specs.declared.Rates.{Rates}
use Rattle.row.specs.Limits.{RateLimits}
use Rattle.kinetics.specs.declared.State.{State}
use Rattle.kinetics.specs.Step.{Exits, burden, burden_limit, urine_ledger, faeces_ledger, skin_ledger, next}
use Rattle.state.specs.State.{burden_refusal}
use Rattle.margin.proofs.StepLaws.{step_law}
use Rattle.steps.specs.Steps.{Step, exits_of, leaves, steps_from, last_from, steps_refusal}
use Rattle.conservation.specs.Conservation.{Chain}
use Rattle.steps.proofs.Shares.{sum_of}
use Rattle.steps.proofs.Loops.{step_conserves}

-- what left by one of the exits, over steps
abbrev pub left_in : (Exits → ℕ) → List Step → ℕ
left_in exit xs = total_of (λ (x : Step). exit (exits_of x)) xs

-- from a to b by the steps xs, which take up t
pub record StepsBalanced (a b : State) (xs : List Step) (t : ℕ) : Type 0 where
  pub lead : burden b.lead + (left_in (λ x. x.urine) xs + left_in (λ x. x.faeces) xs + left_in (λ x. x.skin) xs) ≡ burden a.lead + t
  pub urine : urine_ledger b ≡ urine_ledger a + left_in (λ x. x.urine) xs
  pub faeces : faeces_ledger b ≡ faeces_ledger a + left_in (λ x. x.faeces) xs
  pub skin : skin_ledger b ≡ skin_ledger a + left_in (λ x. x.skin) xs

-- balances: of no step, and of one step more before others
no_step_balanced : (a : State) → StepsBalanced a a [] 0
no_step_balanced a = record { lead = omega arith; urine = omega arith; faeces = omega arith; skin = omega arith }

module _ (r : Rates) (a : State) (u : ℕ) (limits : RateLimits r) where
  step_before_balanced : (b : State) (xs : List Step) (t : ℕ) → StepsBalanced (next r a u) b xs t
      → StepsBalanced a b (record { before = a; rates = r; uptake = u } ∷ xs) (u + t)
  step_before_balanced b xs t rest =
      let k = step_law r a u limits in
      let c = step_conserves r a u limits in
      record { lead = omega arith; urine = omega arith; faeces = omega arith; skin = omega arith }

-- a chain ends at any state with the last compartments and ledgers
pub chain_to : (a b c : State) (xs : List Step) → b.lead ≡ c.lead → b.ledgers ≡ c.ledgers → Chain a xs b → Chain a xs c
chain_to a b c [] p q h = (h.0 ∙ p, h.1 ∙ q)
chain_to a b c (x ∷ xs) p q h = (h.0, (h.1.0, chain_to (leaves x) b c xs p q h.1.1))

-- steps from a that absorb us
module _ (rates : State → Rates) where
  pub steps_count : (a : State) (us : List ℕ) → length (steps_from rates a us) ≡ length us
  unfolding steps_from
  steps_count a [] = refl
  steps_count a (u ∷ us) = ap suc (steps_count (next (rates a) a u) us)

  pub steps_uptake : (a : State) (us : List ℕ) → total_of (λ (x : Step). x.uptake) (steps_from rates a us) ≡ sum_of us
  unfolding steps_from
  steps_uptake a [] = refl
  steps_uptake a (u ∷ us) = ap (u +◌) (steps_uptake (next (rates a) a u) us)

  module _ (limits : (b : State) → RateLimits (rates b)) where
    pub steps_chain : (a : State) (us : List ℕ) → Chain a (steps_from rates a us) (last_from rates a us)
    unfolding steps_from last_from
    steps_chain a [] = (refl, refl)
    steps_chain a (u ∷ us) =
        let k = step_law (rates a) a u (limits a) in
        (refl, (rw k.lead k.law.margin, steps_chain (next (rates a) a u) us))

    pub steps_balance : (a : State) (us : List ℕ) → StepsBalanced a (last_from rates a us) (steps_from rates a us) (sum_of us)
    unfolding steps_from last_from
    steps_balance a [] = no_step_balanced a
    steps_balance a (u ∷ us) = step_before_balanced (rates a) a u (limits a) _ _ _ (steps_balance (next (rates a) a u) us)

    -- if no step is refused, the burden stays within its limit
    pub steps-within :
        (a : State) (us : List ℕ) → steps_refusal rates a us ≡ 0 → burden a.lead ≤ burden_limit → burden (last_from rates a us).lead ≤ burden_limit
    unfolding steps_refusal last_from
    steps-within a [] r h = h
    steps-within a (u ∷ us) r h =
        let p = or_else_none (burden_refusal (burden a.lead + u)) _ r in
        let room = leb-true (burden a.lead + u) burden_limit (unless_none _ 22 (omega arith) p.0) in
        let c = step_conserves (rates a) a u (limits a) in
        steps-within (next (rates a) a u) us p.1 (omega arith)
