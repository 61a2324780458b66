-- A child's course up to a month: birth, and then month after month, up to the first refusal. s is the number of steps a day.
-- Assumes nothing.
use Rattle.std.specs.Prelude.{ℕ, zero, suc, List}
use Rattle.numbers.specs.Choice.{answer_by}
use Rattle.site.specs.declared.Scenario.{Scenario}
use Rattle.child.specs.Answers.{BirthAnswer, MonthAnswer, Course}
use Rattle.child.specs.Birth.{newborn, newborn_refusal, birth_answer}
use Rattle.child.specs.Month.{child_month}

-- what birth answers, with blood 0; and what a month answers
abbrev pub from_birth : BirthAnswer → Course
from_birth b = record { refusal = b.refusal; state = b.state; blood = 0 }

abbrev pub from_month : MonthAnswer → Course
from_month m = record { refusal = m.refusal; state = m.state; blood = m.blood }

module _ (s : ℕ) (scenario : Scenario) (table : List ℕ) where
  -- a month more from its state; the first refusal ends a course, which then stays as it is
  unfoldable pub next_month : Course → Course
  next_month c = answer_by c.refusal (from_month (child_month s c.state scenario table)) (λ r. c)

  -- the course up to a month: that of birth, and a month more for each
  unfoldable pub course_at : ℕ → Course
  course_at zero = from_birth (birth_answer (newborn_refusal scenario table) (newborn scenario table))
  course_at (suc m) = next_month (course_at m)
