-- `text::put_text` meets its contract: the bytes put are the first of the text, and then all.
use Rattle.std.proofs.Common.{◌≡◌, length}
use native.Mathlib.Omega.{arith}
use Rattle.text.proofs.Puts.{text_none, text_next, text_whole}
use Rattle.text.proofs.put_text.Goals as goal

pub loop-at-init : goal.loop-at-init
loop-at-init c = text_none c.args.text.now

pub loop-at-preserved : goal.loop-at-preserved
loop-at-preserved c = text_next c.args.text.now c.loop-at-test.true c.loop-at.invariant

pub returns : goal.returns
returns c =
    let end : c.loop-at.at ≡ length c.args.text.now = omega (arith, c.loop-at-test.false, c.loop-at.auto.at-end) in
    rw end at (text_whole c.args.text.now end c.loop-at.invariant)
