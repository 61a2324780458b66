-- `group::answers_of` meets its contract: the files are refused, or each row answers by its course.
use Rattle.std.proofs.Common.{arith, ◌∙◌}
use Rattle.steps.specs.Steps.{steps_a_day}
use Rattle.roll.specs.Words.{rows_a_group}
use Rattle.survey.proofs.RowAnswers.{files_read_ready}
use Rattle.group.proofs.GroupAnswers.{all_refused, roll_refused, roll_answered}
use Rattle.group.proofs.answers_of.Goals as goal
use Rattle.group.proofs.answers_of.Goals.{in-Ok, in-Err}

pub invariant_of-ready : goal.invariant_of-ready
invariant_of-ready c = record { ready = files_read_ready c.in-Ok.ensures.child }

pub returns-clause-rows : goal.returns-clause-rows
returns-clause-rows c =
    elim c.match-accept_counted.branch [
      | in-Ok w ↦ rw (w.rows-is, c.rows-count.ensures) (w.row_answers-rows.ensures ∙ roll_answered steps_a_day c.args.roll.now.words c.args.roll.now.count w.in-Ok.ensures.child)
      | in-Err w ↦
          rw (w.rows-is, c.rows-count.ensures, w.number.ensures)
          (all_refused _ _ rows_a_group c.args.roll.now.words (omega arith) ∙ roll_refused steps_a_day c.args.roll.now.words c.args.roll.now.count _ _ w.in-Err.ensures.number)
    ]
