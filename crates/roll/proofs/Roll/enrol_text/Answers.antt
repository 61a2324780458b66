-- `roll::Roll::enrol_text` meets its contract: row after row, up to a full roll or the end of the text.
use native.Mathlib.Omega.{arith}
use borrow.Author.Rules.{rules}
use Rattle.roll.proofs.TextRows.{text_start, text_next, text_onward, text_within, roll_full, text_end}
use Rattle.roll.proofs.Roll.enrol_text.Goals as goal
use Rattle.roll.proofs.Roll.enrol_text.Goals.{then-loop-at-test+else-self-lt-GROUP_ROWS, else-loop-at-test}

pub loop-at-init : goal.loop-at-init
loop-at-init c = text_start _ _ (search rules) c.before_row-reader.ensures

pub overflow_add-at : goal.overflow_add-at
overflow_add-at c =
    let read = c.enrol_next-at.ensures in
    omega (arith, text_within c.loop-at.invariant c.if-self-lt-GROUP_ROWS.true c.loop-at-test.true read.read read.words_after)

pub loop-at-smaller : goal.loop-at-smaller
loop-at-smaller c =
    let inv = c.loop-at.invariant in
    let room = c.if-self-lt-GROUP_ROWS.true in
    let more = c.loop-at-test.true in
    let read = c.enrol_next-at.ensures in
    omega (arith, text_within inv room more read.read read.words_after, text_onward inv room more read.read read.words_after)

pub loop-at-preserved : goal.loop-at-preserved
loop-at-preserved c =
    let read = c.enrol_next-at.ensures in
    text_next c.loop-at.invariant c.if-self-lt-GROUP_ROWS.true c.loop-at-test.true read.read read.words_after

pub returns : goal.returns
returns c =
    let inv = c.loop-at.invariant in
    let last = c.enrol_last.ensures in
    elim c.loop-at-test.branch [
      | then-loop-at-test+else-self-lt-GROUP_ROWS w ↦ roll_full inv last.count_after last.words_after w.if-self-lt-GROUP_ROWS.false
      | else-loop-at-test w ↦ text_end inv last.count_after last.words_after w.loop-at-test.false
    ]
