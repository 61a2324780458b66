-- `block::read::read_numbers` meets its contract: the numbers stored so far are the first of `numbers_from`.
use Rattle.std.proofs.Common.{refl}
use Rattle.numbers.proofs.Loops.{filled_none, filled_next, filled_all}
use Rattle.block.specs.Block.{numbers_from}
use Rattle.block.proofs.read.read_numbers.Goals as goal

pub loop-k-init : goal.loop-k-init
loop-k-init g c = filled_none _ _ refl

pub loop-k-preserved : goal.loop-k-preserved
loop-k-preserved g c = filled_next c.loop-k.invariant c.loop-k-test.true (cc)

pub returns : goal.returns
unfolding numbers_from
returns g c = filled_all c.loop-k.invariant c.loop-k-test.false
