-- `cardline::rows::put_rows` meets its contract: each line put after the one before.
use Rattle.std.proofs.Common.{rules, arith, ◌∙◌}
use Rattle.cardline.specs.Cardline.{joined}
use Rattle.cardline.proofs.GroupLines.{lines_more}
use Rattle.cardline.proofs.rows.put_rows.Goals as goal

pub loop-answer-init : goal.loop-answer-init
unfolding joined
loop-answer-init c = search rules

pub loop-answer-preserved : goal.loop-answer-preserved
loop-answer-preserved c = (
  c.put_row.ensures.bytes ∙ rw c.loop-answer.invariant.0 (lines_more c.given-given.result.now c.loop-answer.answer-index c.loop-answer-test.true),
  omega (arith, c.put_row.ensures.most, c.loop-answer.invariant.1),
)
