-- `roll::Roll::enrol_text` meets its contract: row after row, up to a full roll or the end of the text. The measure is the number of bytes left.
use Prim.Native.Nat.{◌-◌}
use lib.ListN.{length}
use Rattle.roll.proofs.TextRows.{InText}
use Rattle.roll.proofs.Roll.enrol_text.Given as goal

abbrev pub invariant-loop-at : goal.invariant-loop-at
invariant-loop-at l = InText l.text l.self.words l.reader l.self.count l.at

abbrev pub decreases-loop-at : goal.decreases-loop-at
decreases-loop-at l = length l.text - l.at
