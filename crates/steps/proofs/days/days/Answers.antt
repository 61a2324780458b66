-- `steps::days::days` meets its contract: at day d the days from d on are left.
use Rattle.std.proofs.Common.{◌≡◌, Err, rules}
use Rattle.steps.proofs.Loops.{day_steppable, month_refused, month_next, month_end_lem}
use Rattle.steps.proofs.days.days.Goals as goal

pub day-requires : goal.day-requires
day-requires c = day_steppable c.requires c.loop.counter c.loop.invariant c.loop-test.true

pub returns-in_err-here : goal.returns-in_err-here
returns-in_err-here c =
    let refused : c.from_residual.result ≡ Err c.in_err-here.field-0.0 = search rules in
    rw refused (month_refused c.requires c.loop.counter c.loop.invariant c.loop-test.true (rw c.in_err-here.was at c.day.ensures))

pub loop-preserved : goal.loop-preserved
loop-preserved c =
    month_next c.requires c.loop.counter c.loop.invariant c.loop-test.true (rw c.in_ok-here.was at c.day.ensures)

pub returns : goal.returns
returns c = month_end_lem c.requires c.loop.counter c.loop.invariant c.loop-test.false
