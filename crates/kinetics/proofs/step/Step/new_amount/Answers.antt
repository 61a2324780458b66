-- `kinetics::step::Step::new_amount` meets its contract, for any of the six.
use Rattle.std.proofs.Common.{arith}
use Rattle.kinetics.proofs.Bounds.{amount_le, inflow-at_fits, new_amount_is, compartments_pos}
use Rattle.kinetics.proofs.step.Step.new_amount.Goals as goal

pub overflow_mul-result : goal.overflow_mul-result
overflow_mul-result c = omega (arith, amount_le c.args.self.now.ready c.requires.within)

pub overflow_mul-result-2 : goal.overflow_mul-result-2
overflow_mul-result-2 c = omega (arith, inflow-at_fits c.args.self.now.ready c.requires.within c.requires.solved)

pub overflow_add-result-2 : goal.overflow_add-result-2
overflow_add-result-2 c = omega (arith, inflow-at_fits c.args.self.now.ready c.requires.within c.requires.solved)

pub nonzero_div-result : goal.nonzero_div-result
nonzero_div-result c = compartments_pos c.args.self.now.ready c.requires.within

pub returns : goal.returns
returns c = new_amount_is c.args.self.now.ready c.requires.within c.requires.solved
