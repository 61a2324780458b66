-- The lines so far are those of the first answers, and fit their places.
use Rattle.std.proofs.Common.{◌≡◌, ◌*◌, ◌≤◌, length, map, take}
use Rattle.group.specs.Given.{answer_read}
use Rattle.cardline.specs.Cardline.{row_line, joined}
use Rattle.cardline.specs.Internal.{line_bytes}
use Rattle.cardline.proofs.rows.put_rows.Given as goal

abbrev pub invariant-loop-answer : goal.invariant-loop-answer
invariant-loop-answer l = (l.lines ≡ joined (map row_line (map answer_read (take l.answer-index l.given)))) × (length l.lines ≤ line_bytes * l.answer-index)
