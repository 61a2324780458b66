-- `group::answer_text` meets its contract: the rows of the text are on the roll, and answer.
use Rattle.std.proofs.Common.{arith, ap, ◌∙◌}
use Rattle.files.specs.CallFiles.{files_in}
use Rattle.steps.specs.Steps.{steps_a_day}
use Rattle.group.specs.Group.{answered}
use Rattle.group.proofs.GroupAnswers.{taken_few, text_answered}
use Rattle.group.proofs.answer_text.Goals as goal

pub overflow_cast-result : goal.overflow_cast-result
overflow_cast-result c = omega (arith, taken_few c.enrol_text-next.ensures)

pub returns-clause-answers_after : goal.returns-clause-answers_after
returns-clause-answers_after c =
    let f = files_in c.args.files.now in
    c.answer_roll-decodes.ensures.answers_after ∙ ap (λ given. answered given c.args.words.now) (text_answered c.enrol_text-next.ensures steps_a_day f)
