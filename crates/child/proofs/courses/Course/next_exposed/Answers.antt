-- `child::courses::Course::next_exposed` meets its contract: the course as it is, or what the month answers.
use mathlib.Core.Path.{refl, ◌∙◌}
use Rattle.refusal.proofs.Numbers.{some_number}
use Rattle.steps.specs.Steps.{steps_a_day}
use Rattle.child.proofs.CourseSteps.{course_kept, course_given}
use Rattle.child.proofs.courses.Course.next_exposed.Goals as goal

pub returns-in-Ok : goal.returns-in-Ok
returns-in-Ok c scenario table given =
    let month = rw c.in-Ok.is at given in
    rw c.in-Ok.is (c.after.ensures ∙ course_given steps_a_day scenario table _ refl _ _ _ c.given_month.ensures month)

pub returns-in-Err : goal.returns-in-Err
returns-in-Err c scenario table given = rw c.in-Err.is (course_kept steps_a_day scenario table _ (some_number c.in-Err.field-0))
