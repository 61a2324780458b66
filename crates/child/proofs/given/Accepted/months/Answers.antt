-- `child::given::Accepted::months` meets its contract: the whole run is the figures written so far and the months from the state here.
use mathlib.Core.Path.{refl}
use native.Mathlib.Omega.{arith}
use lib.Seq.{set-get_or}
use Rattle.refusal.proofs.Numbers.{some_number}
use Rattle.steps.specs.Steps.{steps_a_day}
use Rattle.child.specs.Internal.{child_run}
use Rattle.child.proofs.RunLoop.{run_stop, run_next, run_end, child_kept}
use Rattle.child.proofs.given.Accepted.months.Goals as goal

pub loop-done-preserved : goal.loop-done-preserved
loop-done-preserved c = run_next c.loop-done.invariant (omega (arith, c.loop-done-test.true)) c.in-Ok.ensures refl

pub returns-in-Err : goal.returns-in-Err
unfolding child_run
returns-in-Err c =
    let a = c.args.self.now in
    let whole = run_stop c.loop-done.invariant (omega (arith, c.loop-done-test.true)) c.in-Err.ensures (child_kept steps_a_day a.scenario.now a.table.now) (some_number _) in
    record { value = whole.0; blood_after = rw (set-get_or c.loop-done.blood c.loop-done.done 0) whole.1 }

pub returns : goal.returns
unfolding child_run
returns c =
    let whole = run_end c.loop-done.invariant (omega (arith, c.loop-done-test.false)) in
    record { value = whole.0; blood_after = whole.1 }
