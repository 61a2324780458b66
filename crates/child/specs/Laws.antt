-- The law of a child's course: it is a run, month by month.
-- Assumes nothing.
use Rattle.std.specs.Prelude.{ℕ, ◌+◌, ◌≤◌, ◌<◌, ◌≡◌, List, length, get_or}
use Rattle.numbers.specs.Choice.{answer_by}
use Rattle.site.specs.declared.Scenario.{Scenario}
use Rattle.kinetics.specs.declared.State.{State}
use Rattle.state.specs.State.{zero_state}
use Rattle.child.specs.Answers.{Course}
use Rattle.child.specs.Birth.{newborn, newborn_refusal}
use Rattle.child.specs.Month.{child_month}
use Rattle.child.specs.Months.{MonthsRun, no_month, months_by}
use Rattle.child.specs.Course.{course_at}

-- birth and n months of a run; a refused birth has none
abbrev pub run_from_birth : ℕ → Scenario → List ℕ → ℕ → MonthsRun
run_from_birth s scenario table n =
    answer_by (newborn_refusal scenario table)
    (months_by (λ (a : State). child_month s a scenario table) n (newborn scenario table))
    (λ r. no_month r zero_state)

-- what a run says of a course up to the month that follows m months: its figure, if the run did that month, else the refusal that ended the run before it
pub record AsInRun (r : MonthsRun) (m : ℕ) (c : Course) : Type 0 where
  pub passes : m < length r.figures → c.refusal ≡ 0
  pub figure : m < length r.figures → c.blood ≡ get_or r.figures m 0
  pub ends : length r.figures ≤ m → c.refusal ≡ r.refusal
  pub refused : length r.figures ≤ m → r.refusal ≡ 0 → ⊥

-- the course up to each month of a run is as in the run
abbrev pub CourseLaw : Type 0
CourseLaw = (s : ℕ) (scenario : Scenario) (table : List ℕ) (n m : ℕ) → m < n → AsInRun (run_from_birth s scenario table n) m (course_at s scenario table (m + 1))
