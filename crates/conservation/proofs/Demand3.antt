-- Demand 3, proved; and no call after an accepted birth is refused with 20.
-- Assumes nothing.
use Prim.Native.Nat.{ℕ, zero, suc, ◌-◌, ◌*◌, ◌≤◌, ◌<◌}
use mathlib.Core.Path.{◌≡◌, refl, ◌∙◌, sym}
use mathlib.Core.List.{List, [], ◌∷◌, map}
use native.Mathlib.Nat.{sub-zero, suc-sub-suc, le_of_suc-le-suc, not-suc-le-zero}
use native.Mathlib.Omega.{arith}
use lib.ListN.{length, get_or, take, drop}
use Rattle.numbers.specs.Lists.{Each}
use Rattle.kinetics.specs.declared.State.{State}
use Rattle.files.specs.Files.{Files}
use Rattle.steps.specs.Steps.{steps_a_day, days_a_month}
use Rattle.engine.specs.Birth.{birth_of}
use Rattle.engine.specs.Month.{month_refusal, month_of}
use Rattle.conservation.specs.Conservation.{Month, keep, accepted_months, daily_of, steps_of, Months, Balanced, Demand3, FromBirth}
use Rattle.conservation.specs.Laws.{refusals, StateLaw}
use Rattle.state.proofs.SoundState.{Sound}
use Rattle.conservation.proofs.StateAlone.{month_not_20}
use Rattle.conservation.proofs.StepsBalance.{StepsBalanced}
use Rattle.conservation.proofs.WholeMonths.{MonthDone, month_refusal_lem, month_kept, month_accepted, month_sound, birth_sound}

-- accepted months, the first from a, each later one from what the one before answered
abbrev Linked : (Files → ℕ) → State → List Month → Type 0
Linked steps a [] = Unit {0}
Linked steps a (m ∷ ms) = (m.before ≡ a) × (MonthDone steps m × Linked steps m.after ms)

linked_months : (steps : Files → ℕ) (a : State) (ms : List Month) → Linked steps a ms → Months steps a ms
linked_months steps a [] l = tt
linked_months steps a (m ∷ ms) l = (l.0, (l.1.0.whole, linked_months steps m.after ms l.1.1))

-- balances: of no month, and of one month more before others
no_month_balanced : (steps : Files → ℕ) (a : State) → Balanced steps a a []
no_month_balanced steps a = record { lead = omega arith; urine = omega arith; faeces = omega arith; skin = omega arith }

month_before_balanced : (steps : Files → ℕ) (b : State) (m : Month) (ms : List Month)
    → StepsBalanced m.before m.after (steps_of steps m) (days_a_month * daily_of m) → Balanced steps m.after b ms → Balanced steps m.before b (m ∷ ms)
month_before_balanced steps b m ms first rest = record { lead = omega arith; urine = omega arith; faeces = omega arith; skin = omega arith }

-- d is what the definition's lists answer past their end
module _ (steps : Files → ℕ) (d : State) where
  abbrev end_or : State → List Month → ℕ → State
  end_or a ms i = get_or (a ∷ map (λ (m : Month). m.after) ms) i d

  -- the first j months balance
  first_months_balanced : (a : State) (ms : List Month) → Linked steps a ms → (j : ℕ) → j ≤ length ms → Balanced steps a (end_or a ms j) (take j ms)
  first_months_balanced a ms l zero h = no_month_balanced steps a
  first_months_balanced a [] l (suc j) h = absurd (not-suc-le-zero h)
  first_months_balanced a (m ∷ ms) l (suc j) h =
      rw (← l.0) (month_before_balanced steps _ m (take j ms) l.1.0.balance (first_months_balanced m.after ms l.1.1 j (le_of_suc-le-suc h)))

  -- the months between any two ends balance
  months_between_balanced : (a : State) (ms : List Month) → Linked steps a ms → (i j : ℕ) → i ≤ j → j ≤ length ms
      → Balanced steps (end_or a ms i) (end_or a ms j) (take (j - i) (drop i ms))
  months_between_balanced a ms l zero j h k = rw sub-zero (first_months_balanced a ms l j k)
  months_between_balanced a ms l (suc i) zero h k = absurd (not-suc-le-zero h)
  months_between_balanced a [] l (suc i) (suc j) h k = absurd (not-suc-le-zero k)
  months_between_balanced a (m ∷ ms) l (suc i) (suc j) h k =
      rw suc-sub-suc (months_between_balanced m.after ms l.1.1 i j (le_of_suc-le-suc h) (le_of_suc-le-suc k))

module _ (steps : Files → ℕ) (pos : (f : Files) → 0 < steps f) where
  -- a call before the accepted months ms
  linked_after_call : (a : State) (f : Files) (ms : List Month) → Linked steps (month_of (steps f) a f).state ms
      → (r : ℕ) → month_refusal (steps f) a f ≡ r
      → Linked steps a (keep r (record { before = a; files = f; after = (month_of (steps f) a f).state }) ms)
  linked_after_call a f ms l zero e = (refl, (month_accepted steps pos a f e, l))
  linked_after_call a f ms l (suc r) e = rw (month_kept (steps f) a f r e) at l

  accepted_linked : (a : State) (calls : List Files) → Linked steps a (accepted_months steps a calls)
  unfolding accepted_months
  accepted_linked a [] = tt
  accepted_linked a (f ∷ fs) = linked_after_call a f _ (accepted_linked (month_of (steps f) a f).state fs) (month_of (steps f) a f).refusal (sym (month_refusal_lem (steps f) a f))

  never_20 : (a : State) (calls : List Files) → Sound a → Each (λ (r : ℕ). r ≡ 20 → ⊥) (refusals steps a calls)
  unfolding refusals
  never_20 a [] k = tt
  never_20 a (f ∷ fs) k =
      (λ e. month_not_20 k (steps f) f (sym (month_refusal_lem (steps f) a f) ∙ e), never_20 (month_of (steps f) a f).state fs (month_sound steps pos a f k))

pub demand3 : Demand3
demand3 steps pos a calls =
    let l = accepted_linked steps pos a calls in
    record { months = linked_months steps a (accepted_months steps a calls) l; balance = months_between_balanced steps a a (accepted_months steps a calls) l }

pub from_birth_lem : FromBirth
from_birth_lem birth born calls = demand3 (λ f. steps_a_day) (λ f. omega arith) (birth_of birth).state calls

pub state_law : StateLaw
state_law steps pos birth born calls = never_20 steps pos (birth_of birth).state calls (birth_sound birth born)
