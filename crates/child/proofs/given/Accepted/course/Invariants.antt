-- `child::given::Accepted::course` meets its contract: the course here is the one up to the months done.
use Rattle.steps.specs.Steps.{steps_a_day}
use Rattle.child.specs.Outcomes.{course_in}
use Rattle.child.proofs.CourseSteps.{InCourse}
use Rattle.child.proofs.given.Accepted.course.Given as goal

abbrev pub invariant-loop : goal.invariant-loop
invariant-loop l = InCourse steps_a_day l.self.scenario.now l.self.table.now l.until (course_in l.here) l.counter
