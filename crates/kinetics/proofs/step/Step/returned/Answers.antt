-- `kinetics::step::Step::returned` meets its contract, for any of the six.
use Rattle.std.proofs.Common.{arith}
use Rattle.kinetics.proofs.Bounds.{back-amount_fits, compartments_pos, returned_is}
use Rattle.kinetics.proofs.step.Step.returned.Goals as goal

pub overflow_mul-result : goal.overflow_mul-result
overflow_mul-result c = omega (arith, back-amount_fits c.args.self.now.ready c.requires)

pub nonzero_div-result : goal.nonzero_div-result
nonzero_div-result c = compartments_pos c.args.self.now.ready c.requires

pub returns : goal.returns
returns c = returned_is c.args.self.now.ready c.requires
