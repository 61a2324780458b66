-- `child::booked::BookedMonth::exposed_month` meets its contract: refused by its intakes, or its steps at its row with its uptake.
use mathlib.Core.Path.{◌≡◌, sym, ap, ◌∙◌}
use Rattle.std.proofs.lemmas.Result.{err_from_is_err_and}
use Rattle.refusal.proofs.Numbers.{some_number}
use Rattle.exposure.specs.declared.limited.LimitedExposure.{LimitedExposure}
use Rattle.uptake.specs.Uptake.{day_uptake}
use Rattle.steps.specs.Steps.{steps_a_day}
use Rattle.child.proofs.MonthAnswers.{exposed_refused, exposed_stepped}
use Rattle.child.proofs.booked.BookedMonth.exposed_month.Goals as goal

pub returns-in_err-passed : goal.returns-in_err-passed
returns-in_err-passed c =
    let p = err_from_is_err_and c.from_residual.result c.from_residual.ensures.1 in
    rw (p.1, p.2) (exposed_refused steps_a_day _ _ _ _ _ c.in_err-passed.ensures.number (some_number _))

pub returns : goal.returns
returns c =
    let e = c.args.exposure.now.exposure in
    let b = c.args.self.now in
    let uptake_is : c.day_uptake-t.result ≡ day_uptake e b.row.body_weight b.weight24 =
    rw (c.body_weights-weights.ensures.month, c.body_weights-weights.ensures.month24) at c.day_uptake-t.ensures.value ∙ ap (λ (x : LimitedExposure). day_uptake x.exposure b.row.body_weight b.weight24) c.in_ok-passed.ensures.same
    in
    exposed_stepped steps_a_day c.args.state.now e b.row b.weight24 (sym c.in_ok-passed.ensures.number) uptake_is c.stepped_month.ensures
