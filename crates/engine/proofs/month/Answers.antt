-- `engine::month` meets its contract: refused by its files, or a month of the child of accepted files.
use mathlib.Core.Path.{◌∙◌}
use Rattle.std.proofs.lemmas.Result.{err_from_is_err_and}
use Rattle.steps.specs.Steps.{steps_a_day}
use Rattle.engine.proofs.CallAnswers.{month_files_refused, month_files_read}
use Rattle.engine.proofs.month.Goals as goal

pub returns-in_err-accepted : goal.returns-in_err-accepted
returns-in_err-accepted c =
    let p = err_from_is_err_and c.from_residual.result c.from_residual.ensures.1 in
    rw (p.1, p.2) (month_files_refused _ steps_a_day _ _ c.in_err-accepted.ensures.number)

pub returns : goal.returns
returns c = c.month.ensures ∙ month_files_read c.in_ok-accepted.ensures.child steps_a_day _
