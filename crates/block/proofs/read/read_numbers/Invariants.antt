-- `block::read::read_numbers` meets its contract: the numbers stored so far are the first of `numbers_from`.
use Rattle.std.proofs.Common.{length}
use Rattle.numbers.proofs.Loops.{Filled}
use Rattle.block.proofs.BlockRefusals.{number_from}
use Rattle.block.proofs.read.read_numbers.Given as goal

abbrev pub invariant-loop-k : goal.invariant-loop-k
invariant-loop-k g l = Filled (number_from g.K.Kind.BYTES g.K.Kind.number_at l.from l.block) (length l.initial.target) l.target l.k
