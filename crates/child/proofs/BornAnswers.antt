-- A birth from accepted files, by what the code computes.
-- Assumes nothing.
use mathlib.Core.Path.{◌≡◌}
use mathlib.Core.List.{List}
use Prim.Native.Nat.{ℕ, ◌≤◌, ◌<◌, min}
use borrow.Author.Tests.{le-leb, lt-leb}
use Rattle.numbers.specs.Choice.{unless}
use Rattle.site.specs.declared.Scenario.{Scenario}
use Rattle.kinetics.specs.declared.State.{State}
use Rattle.kinetics.specs.Step.{burden, burden_limit}
use Rattle.child.specs.Answers.{BirthAnswer}
use Rattle.state.specs.State.{zero_state}
use Rattle.child.specs.Birth.{newborn, newborn_refusal, birth_answer}
use Rattle.state.specs.Internal.{cap}
use Rattle.state.proofs.StateCheck.{capped_over, capped_within}

-- birth from accepted files, by its capped burden
module _ (scenario : Scenario) (table : List ℕ) (child : State) (born : child ≡ newborn scenario table) {held : ℕ} (eh : held ≡ min (burden child.lead) cap) where
  pub born_refused : burden_limit < held → (a : State) → a ≡ zero_state
      → ◌≡◌ {A = BirthAnswer} (record { refusal = 22; state = a }) (birth_answer (newborn_refusal scenario table) (newborn scenario table))
  unfolding newborn_refusal unless
  born_refused h a ez =
      let over : burden_limit < burden (newborn scenario table).lead = rw born at (capped_over (burden child.lead) eh h) in
      rw (lt-leb _ _ over, ez)

  pub born_accepted : held ≤ burden_limit
      → ◌≡◌ {A = BirthAnswer} (record { refusal = 0; state = child }) (birth_answer (newborn_refusal scenario table) (newborn scenario table))
  unfolding newborn_refusal unless
  born_accepted h =
      let within : burden (newborn scenario table).lead ≤ burden_limit = rw born at (capped_within (burden child.lead) eh h) in
      rw (le-leb _ _ within, born)
