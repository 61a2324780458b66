-- `child::booked::BookedMonth::stepped_month` meets its contract: refused at a step, or the month that thirty days leave.
use native.Mathlib.Omega.{arith}
use Rattle.std.proofs.lemmas.Result.{err_from_is_err_and}
use Rattle.steps.specs.Steps.{steps_a_day}
use Rattle.state.proofs.SoundState.{passed_before}
use Rattle.child.proofs.MonthAnswers.{month_steppable, stepped_refused, stepped_accepted}
use Rattle.child.proofs.booked.BookedMonth.stepped_month.Goals as goal

pub days-requires : goal.days-requires
days-requires c = rw c.new-rates.ensures.rates (month_steppable c.args.state.now c.requires.0 c.args.self.now.limits c.requires.1)

pub returns-in_err-last : goal.returns-in_err-last
returns-in_err-last c =
    let p = err_from_is_err_and c.from_residual.result c.from_residual.ensures.1 in
    let reached = rw c.new-rates.ensures.rates at c.in_err-last.ensures in
    rw (p.1, p.2) (stepped_refused steps_a_day _ _ _ _ _ reached)

pub overflow_add-month : goal.overflow_add-month
overflow_add-month c = omega (arith, passed_before c.args.state.now c.requires.0)

pub returns : goal.returns
returns c =
    let reached = rw c.new-rates.ensures.rates at c.in_ok-last.ensures in
    rw c.blood_figure-blood.ensures.value (stepped_accepted steps_a_day _ _ _ _ _ reached)
