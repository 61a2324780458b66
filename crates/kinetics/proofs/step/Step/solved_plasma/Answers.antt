-- `kinetics::step::Step::solved_plasma` meets its contract.
use Rattle.kinetics.proofs.Bounds.{solved_plasma_is, plasma_pos}
use Rattle.kinetics.proofs.step.Step.solved_plasma.Goals as goal

pub nonzero_div-result : goal.nonzero_div-result
nonzero_div-result c = plasma_pos c.args.self.now.ready

pub returns : goal.returns
returns c = solved_plasma_is c.args.self.now.ready c.inflow.ensures.value
