-- `group::row_answers` meets its contract: the next row's course goes on, and the next row answers by its course.
use Rattle.std.proofs.Common.{arith, min, Option, Result, Ok, None, length-set}
use Prim.Native.Nat.{ℕ, ◌<◌}
use lib.ListN.{length, replicate, length-replicate, length-take}
use lib.Seq.{take-append-le}
use mathlib.Core.Path.{◌≡◌, ap, ◌∙◌}
use mathlib.Core.List.{map}
use Rattle.steps.specs.Steps.{steps_a_day}
use Rattle.survey.specs.Survey.{start_answer}
use Rattle.roll.specs.Words.{rows_a_group}
use Rattle.group.specs.Given.{answer_read}
use Rattle.group.proofs.GroupCourses.{courses_born, courses_ended, row_goes_on, part_lent, part_back}
use Rattle.group.proofs.GroupAnswers.{rows_none, row_answered}
use Rattle.group.proofs.row_answers.Goals as goal

pub loop-done-init : goal.loop-done-init
loop-done-init c =
    let files = c.args.files in
    courses_born steps_a_day files.scenario.now files.table.now files.ready c.args.roll.now.words (min c.args.roll.now.count rows_a_group) (omega arith) c.course_at_birth-birth.result
    (rw (c.of_yard.ensures.scenario, c.of_yard.ensures.table) at c.course_at_birth-birth.ensures)

pub loop-i-init : goal.loop-i-init
loop-i-init c = rw c.rows.ensures (part_lent c.loop-done.courses c.loop-done.invariant)

pub loop-i-preserved : goal.loop-i-preserved
loop-i-preserved c =
    let files = c.args.files in
    row_goes_on steps_a_day files.scenario.now files.table.now c.args.roll.now.words _ c.loop-done.done c.loop-i.course-items c.loop-i.i c.row_course.result c.start_at.ensures
    (omega (arith, c.rows.ensures, length-take c.rows.result c.loop-done.courses, c.loop-i-test.true))
    (rw (c.after-month.ensures.files, c.after-month.ensures.done) at c.row_course.ensures) c.loop-i.invariant

pub loop-done-preserved : goal.loop-done-preserved
loop-done-preserved c =
    part_back (omega (arith, c.rows.ensures, length-take c.rows.result c.loop-done.courses, c.rows.array_long, c.loop-i-test.false)) c.loop-i.course-items _ c.loop-i.invariant

pub loop-row-init : goal.loop-row-init
loop-row-init c = (
  omega (arith, c.rows-2.ensures, length-take c.rows-2.result (replicate {A = Result (Option ℕ) ℕ} rows_a_group (Ok None)), length-replicate {A = Result (Option ℕ) ℕ} rows_a_group (Ok None)),
  rows_none (start_answer steps_a_day c.args.files.scenario.now c.args.files.table.now) c.args.roll.now.words,
)

pub loop-row-preserved : goal.loop-row-preserved
loop-row-preserved c =
    let files = c.args.files in
    let roll = c.args.roll.now in
    let ended =
    courses_ended steps_a_day files.scenario.now files.table.now files.ready roll.words (min roll.count rows_a_group) c.last_month-done-end.ensures c.loop-done-test.false c.loop-done.courses
    c.loop-done.invariant in
    let room : c.loop-row.row < length c.loop-row.answer-items = omega (arith, c.loop-row-test.true, c.loop-row.auto.answer-items) in (
      simp length-set c.loop-row.invariant.0,
      row_answered steps_a_day files.scenario.now files.table.now roll.words _ c.loop-done.courses ended
          c.loop-row.answer-items c.loop-row.row c.answer_of.result (omega (arith, c.loop-row.invariant.0, room)) room c.start_at-in-loop-row.ensures c.answer_of.ensures c.loop-row.invariant.1,
    )

pub returns : goal.returns
returns c =
    let n : ℕ = min c.args.roll.now.count rows_a_group in
    let long : length c.loop-row.answer-items ≡ n = c.loop-row.invariant.0 in
    let all : c.loop-row.row ≡ n = omega (arith, long, c.loop-row-test.false, c.loop-row.auto.row-end, c.loop-row.auto.answer-items) in
    ap (map answer_read) (take-append-le n c.loop-row.answer-items _ (omega (arith, long))) ∙ rw all at c.loop-row.invariant.1
