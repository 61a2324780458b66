-- `child::given::Accepted::course` meets its contract: the course here is the one up to the months done.
use Rattle.child.proofs.CourseSteps.{course_next, course_end}
use Rattle.child.proofs.given.Accepted.course.Goals as goal

pub loop-preserved : goal.loop-preserved
loop-preserved c = course_next _ _ _ c.loop.invariant c.loop-test.true c.next_month-here.ensures

pub returns : goal.returns
returns c = course_end _ _ _ c.loop.invariant c.loop-test.false
