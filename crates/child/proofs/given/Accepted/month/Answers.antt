-- `child::given::Accepted::month` meets its contract: refused by its state, or the month of what the files give it.
use mathlib.Core.Path.{sym, ◌∙◌}
use native.Mathlib.Omega.{arith}
use Rattle.std.proofs.lemmas.Result.{err_from_is_err_and}
use Rattle.refusal.proofs.Numbers.{some_number}
use Rattle.steps.specs.Steps.{steps_a_day}
use Rattle.child.specs.Internal.{MonthGiven}
use Rattle.child.proofs.MonthAnswers.{month_after_most, child_refused, child_passed, exposed_from}
use Rattle.child.proofs.given.Accepted.month.Goals as goal

pub returns-in_err-check_state : goal.returns-in_err-check_state
returns-in_err-check_state c =
    let p = err_from_is_err_and c.from_residual.result c.from_residual.ensures.1 in
    rw (p.1, p.2) (child_refused steps_a_day _ _ _ _ c.in_err-check_state.ensures.number (some_number _))

pub overflow_add-month : goal.overflow_add-month
overflow_add-month c = omega (arith, month_after_most c.args.state.now (sym c.in_ok-check_state.ensures.number))

pub exposure-exposure-requires : goal.exposure-exposure-requires
exposure-exposure-requires c = omega (arith, month_after_most c.args.state.now (sym c.in_ok-check_state.ensures.number))

pub booked-booked-requires : goal.booked-booked-requires
booked-booked-requires c = omega (arith, month_after_most c.args.state.now (sym c.in_ok-check_state.ensures.number))

pub returns : goal.returns
returns c =
    let passed = sym c.in_ok-check_state.ensures.number in
    let given : MonthGiven c.args.self.now.scenario.now c.args.self.now.table.now c.args.state.now c.exposure-exposure.result.exposure c.booked-booked.result.row c.booked-booked.result.weight24 =
    record { exposure_is = c.exposure-exposure.ensures; row_is = c.booked-booked.ensures.row; weight_is = c.booked-booked.ensures.weight24 }
    in
    c.exposed_month.ensures ∙ exposed_from steps_a_day _ _ _ _ given ∙ child_passed steps_a_day _ _ _ passed
