-- `lines::Reader::to_row_end` meets its contract: a walk from here with the bytes done before it is the walk from the start.
use mathlib.Core.Path.{◌≡◌}
use lib.ListN.{drop}
use Rattle.lines.specs.Walk.{walk_of}
use Rattle.lines.proofs.Walks.{bytes_then}
use Rattle.lines.proofs.Reader.to_row_end.Given as goal

abbrev pub invariant-loop-i : goal.invariant-loop-i
invariant-loop-i l = bytes_then l.i (walk_of l.self (drop l.i l.piece)) ≡ walk_of l.initial.self l.piece
