-- `child::given::Accepted::months` meets its contract: the whole run is the figures written so far and the months from the state here.
use Rattle.steps.specs.Steps.{steps_a_day}
use Rattle.child.specs.Month.{child_month}
use Rattle.child.proofs.RunLoop.{InRun}
use Rattle.child.proofs.given.Accepted.months.Given as goal

abbrev pub invariant-loop-done : goal.invariant-loop-done
invariant-loop-done l =
    InRun (λ b. child_month steps_a_day b l.self.scenario.now l.self.table.now) l.initial.here l.initial.blood l.blood l.here l.done
