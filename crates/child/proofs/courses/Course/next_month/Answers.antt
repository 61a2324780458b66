-- `child::courses::Course::next_month` meets its contract: the course as it is, or what the month answers.
use mathlib.Core.Path.{refl, ◌∙◌}
use Rattle.refusal.proofs.Numbers.{some_number}
use Rattle.steps.specs.Steps.{steps_a_day}
use Rattle.child.proofs.CourseSteps.{course_kept, course_month}
use Rattle.child.proofs.courses.Course.next_month.Goals as goal

pub returns-in-Ok : goal.returns-in-Ok
returns-in-Ok c = rw c.in-Ok.is (c.after.ensures ∙ course_month steps_a_day _ _ _ refl c.month.ensures)

pub returns-in-Err : goal.returns-in-Err
returns-in-Err c = rw c.in-Err.is (course_kept steps_a_day _ _ _ (some_number c.in-Err.field-0))
