-- What is left of the piece leads where the piece leads. The measure is the number of bytes left. Assumes nothing.
use Rattle.std.proofs.Common.{◌≡◌, length}
use Rattle.lines.specs.Stream.{after}
use Rattle.leadcard.proofs.reading.Survey.read_piece.Given as goal

abbrev pub invariant-loop-rest : goal.invariant-loop-rest
invariant-loop-rest g l = after l.self.reader l.rest ≡ after l.initial.self.reader l.fn.piece

abbrev pub decreases-loop-rest : goal.decreases-loop-rest
decreases-loop-rest g l = length l.rest
