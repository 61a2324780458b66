-- `survey::kept_answer` meets its contract: the files' refusal, or the answer over them.
use Rattle.std.proofs.Common.{◌∙◌}
use Rattle.std.proofs.lemmas.Result.{err_from_is_err_and}
use Rattle.steps.specs.Steps.{steps_a_day}
use Rattle.survey.proofs.RowAnswers.{files_refused, files_read_ready, files_answered}
use Rattle.survey.proofs.kept_answer.Goals as goal

pub returns-in_err-yard : goal.returns-in_err-yard
returns-in_err-yard c =
    let p = err_from_is_err_and c.from_residual.result c.from_residual.ensures.1 in
    rw (p.1, p.2) (files_refused _ steps_a_day c.args.kept.now _ c.in_err-yard.ensures.number)

pub invariant_of-ready : goal.invariant_of-ready
invariant_of-ready c = record { ready = files_read_ready c.in_ok-yard.ensures.child }

pub returns : goal.returns
returns c = c.answer.ensures ∙ files_answered c.in_ok-yard.ensures.child steps_a_day _
