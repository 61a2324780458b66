-- `book::decode_blocks` meets its contract: at block n the table has the numbers of the blocks before, and each of these is counted.
use Rattle.book.proofs.Decode.{AtBlock}
use Rattle.book.proofs.decode_blocks.Given as goal

abbrev pub invariant-loop-n : goal.invariant-loop-n
invariant-loop-n l = AtBlock l.book l.table l.n l.decodes
