-- Reading on with room on the roll uses bytes of its piece, at least one if there is one, and leads on as the piece does.
-- Assumes nothing.
use Rattle.std.proofs.Common.{◌≡◌, ◌∙◌, ℕ, ◌-◌, ◌≤◌, ◌<◌, List, arith, length, take, drop, length-drop, take_all}
use borrow.Author.Tests.{lt-leb}
use Rattle.lines.specs.declared.Reader.{Reader}
use Rattle.lines.specs.Stream.{after}
use Rattle.lines.specs.Walk.{walk_of}
use Rattle.lines.proofs.Walks.{walked}
use Rattle.roll.specs.Enrolled.{Enrolled}
use Rattle.roll.specs.Words.{rows_a_group}
use Rattle.roll.specs.Enrol.{walk_enrolled, enrolled}

module _ (r : Reader) (piece : List ℕ) (n : ℕ) (room : n < rows_a_group) {read : Enrolled} (is : read ≡ enrolled r piece n) where
  walk_is : read ≡ walk_enrolled (walk_of r piece) n
  unfolding enrolled
  walk_is = is ∙ rw (lt-leb rows_a_group n room)

  pub used_within : read.used ≤ length piece
  used_within = rw walk_is (walked r piece).within

  pub used_onward : 0 < length piece → 0 < read.used
  used_onward some = rw walk_is ((walked r piece).onward some)

  leads_on : after read.reader (drop read.used piece) ≡ after r piece
  leads_on = rw walk_is (walked r piece).leads

  -- what is left of the piece, of which there is less
  pub left_is : take (length piece - read.used) (drop read.used piece) ≡ drop read.used piece
  left_is = take_all _ _ (rw length-drop (omega arith))

  pub left_smaller : 0 < length piece → length (take (length piece - read.used) (drop read.used piece)) < length piece
  left_smaller some = rw (left_is, length-drop) (omega (arith, used_within, used_onward some))

  pub left_leads : {here : Reader} → here ≡ read.reader → after here (take (length piece - read.used) (drop read.used piece)) ≡ after r piece
  left_leads same = rw (left_is, same) leads_on
