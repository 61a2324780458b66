-- `group::row_answers` meets its contract: after the months done each row's course is as it is alone, in a month the rows take their turns, and the rows so
-- far answer by their courses.
use Rattle.std.proofs.Common.{◌≡◌, ◌+◌, min, length, map}
use Rattle.numbers.proofs.Turns.{AllBy, Turned}
use Rattle.steps.specs.Steps.{steps_a_day}
use Rattle.child.specs.Outcomes.{course_in}
use Rattle.survey.specs.Survey.{start_answer}
use Rattle.roll.specs.Words.{rows_a_group, starts_in}
use Rattle.group.specs.Given.{answers_read}
use Rattle.group.specs.Internal.{no_course}
use Rattle.group.proofs.GroupCourses.{courses_at}
use Rattle.group.proofs.row_answers.Given as goal

abbrev pub invariant-loop-i : goal.invariant-loop-i
invariant-loop-i l =
    Turned (course_in no_course) (min l.roll.count rows_a_group) (courses_at steps_a_day l.files.scenario.now l.files.table.now l.roll.words l.done) (courses_at steps_a_day l.files.scenario.now l.files.table.now l.roll.words (l.done + 1)) (map course_in l.course-items) l.i

abbrev pub invariant-loop-done : goal.invariant-loop-done
invariant-loop-done l = AllBy (course_in no_course) (min l.roll.count rows_a_group) (courses_at steps_a_day l.files.scenario.now l.files.table.now l.roll.words l.done) (map course_in l.courses)

abbrev pub invariant-loop-row : goal.invariant-loop-row
invariant-loop-row l =
    (length l.answer-items ≡ min l.roll.count rows_a_group) × (answers_read l.row l.answer-items ≡ map (start_answer steps_a_day l.fn.files.scenario.now l.fn.files.table.now) (starts_in l.row l.roll.words))
