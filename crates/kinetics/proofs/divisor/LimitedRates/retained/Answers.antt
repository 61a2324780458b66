-- `kinetics::divisor::LimitedRates::retained` meets its contract, for any of the six.
use Rattle.std.proofs.Common.{arith}
use Rattle.row.specs.Row.{out}
use Rattle.kinetics.proofs.Bounds.{out-back_fits, retained_is}
use Rattle.kinetics.proofs.DivisorMargin.{part_le, back_le, compartment_divisor_pos}
use Rattle.kinetics.proofs.divisor.LimitedRates.retained.Goals as goal

pub overflow_mul-result : goal.overflow_mul-result
overflow_mul-result c = omega (arith, out-back_fits c.args.self.now.limits c.requires)

pub nonzero_div-result : goal.nonzero_div-result
nonzero_div-result c = omega (arith, c.divisor.ensures, compartment_divisor_pos c.args.self.now.rates.now c.args.i)

pub overflow_sub-result : goal.overflow_sub-result
overflow_sub-result c =
    let r = c.args.self.now.rates.now in
    let i = c.args.i in
    rw c.divisor.ensures (part_le (out r i) (back_le r i) (compartment_divisor_pos r i))

pub returns : goal.returns
returns c = retained_is c.args.self.now.limits c.requires c.divisor.ensures
