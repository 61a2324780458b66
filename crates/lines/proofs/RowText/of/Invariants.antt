-- `lines::RowText::of` meets its contract: what is left of the row leads to what is kept of all of it.
use Rattle.lines.proofs.Feeding.{LeftFrom}
use Rattle.lines.proofs.RowText.of.Given as goal

abbrev pub invariant-loop-byte : goal.invariant-loop-byte
invariant-loop-byte l = LeftFrom l.row l.text l.byte-index
