-- `engine::birth` meets its contract: refused by its files, or the birth of a child of accepted files.
use mathlib.Core.Path.{◌∙◌}
use Rattle.std.proofs.lemmas.Result.{err_from_is_err_and}
use Rattle.engine.proofs.CallAnswers.{birth_files_refused, birth_files_read}
use Rattle.engine.proofs.birth.Goals as goal

pub returns-in_err-accepted : goal.returns-in_err-accepted
returns-in_err-accepted c =
    let p = err_from_is_err_and c.from_residual.result c.from_residual.ensures.1 in
    rw (p.1, p.2) (birth_files_refused _ _ c.in_err-accepted.ensures.number)

pub returns : goal.returns
returns c = c.birth.ensures ∙ birth_files_read c.in_ok-accepted.ensures.child
