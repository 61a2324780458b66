-- `lines::Reader::to_row_end` meets its contract: a walk from here with the bytes done before it is the walk from the start.
use mathlib.Core.Path.{◌∙◌, sym}
use native.Mathlib.Omega.{arith}
use Rattle.lines.proofs.Walks.{walk_ends, walk-goes-on, walk-stops}
use Rattle.lines.proofs.Reader.to_row_end.Goals as goal

pub returns-then-ends_row : goal.returns-then-ends_row
returns-then-ends_row c =
    sym (walk_ends _ _ _ c.loop-i-test.true _ c.next.ensures (sym c.ends_row.ensures ∙ c.if-ends_row.true)) ∙ c.loop-i.invariant

pub loop-i-preserved : goal.loop-i-preserved
loop-i-preserved c =
    walk-goes-on _ _ _ c.loop-i-test.true _ c.next-in-loop-i.ensures (sym c.ends_row.ensures ∙ c.if-ends_row.false) ∙ c.loop-i.invariant

pub returns : goal.returns
returns c = sym (walk-stops _ _ _ (omega arith) c.loop-i-test.false) ∙ c.loop-i.invariant
