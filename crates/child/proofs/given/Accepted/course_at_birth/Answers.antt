-- `child::given::Accepted::course_at_birth` meets its contract: what birth answers.
use Rattle.steps.specs.Steps.{steps_a_day}
use Rattle.child.proofs.CourseSteps.{course_born}
use Rattle.child.proofs.given.Accepted.course_at_birth.Goals as goal

pub returns-in-Ok : goal.returns-in-Ok
returns-in-Ok c = course_born steps_a_day _ _ c.in-Ok.ensures

pub returns-in-Err : goal.returns-in-Err
returns-in-Err c = rw c.zero_state.ensures (course_born steps_a_day _ _ c.in-Err.ensures)
