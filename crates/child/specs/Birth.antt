-- The child that accepted files give birth to, its refusal, and what is answered.
-- Assumes nothing.
use Rattle.std.specs.Prelude.{ℕ, List}
use Rattle.numbers.specs.Choice.{answer_by}
use Rattle.site.specs.declared.Scenario.{Scenario}
use Rattle.site.specs.Scenario.{mother_of}
use Rattle.row.specs.Row.{row_of}
use Rattle.kinetics.specs.declared.State.{State}
use Rattle.blood.specs.Birth.{birth_state}
use Rattle.kinetics.specs.Step.{burden}
use Rattle.child.specs.Answers.{BirthAnswer}
use Rattle.state.specs.State.{burden_refusal, zero_state}

-- the child that a scenario and a book's table give birth to
unfoldable pub newborn : Scenario → List ℕ → State
newborn scenario table = birth_state (row_of table 0) (mother_of scenario)

-- 22: its burden over 5 × 10^10
unfoldable pub newborn_refusal : Scenario → List ℕ → ℕ
newborn_refusal scenario table = burden_refusal (burden (newborn scenario table).lead)

-- an accepted birth answers the child, a refused one the all-zero state
abbrev pub accepted_birth : State → BirthAnswer
accepted_birth child = record { refusal = 0; state = child }

abbrev pub refused_birth : ℕ → BirthAnswer
refused_birth r = record { refusal = r; state = zero_state }

abbrev pub birth_answer : ℕ → State → BirthAnswer
birth_answer r child = answer_by r (accepted_birth child) refused_birth
