-- `child::booked::BookedMonth::given_month` meets its contract: refused by its state, or the month by its exposure.
use mathlib.Core.Path.{sym, ◌∙◌}
use Rattle.std.proofs.lemmas.Result.{err_from_is_err_and}
use Rattle.refusal.proofs.Numbers.{some_number}
use Rattle.steps.specs.Steps.{steps_a_day}
use Rattle.child.proofs.MonthAnswers.{given_refused, given_passed}
use Rattle.child.proofs.booked.BookedMonth.given_month.Goals as goal

pub returns-in_err-check_state : goal.returns-in_err-check_state
returns-in_err-check_state c =
    let p = err_from_is_err_and c.from_residual.result c.from_residual.ensures.1 in
    rw (p.1, p.2) (given_refused steps_a_day _ _ _ _ _ c.in_err-check_state.ensures.number (some_number _))

pub returns : goal.returns
returns c = c.exposed_month.ensures ∙ given_passed steps_a_day _ _ _ _ (sym c.in_ok-check_state.ensures.number)
