-- `book::decode_blocks` meets its contract: at block n the table has the numbers of the blocks before, and each of these is counted.
use Rattle.std.proofs.Common.{refl}
use Rattle.std.proofs.lemmas.Result.{err_from_is_err_and}
use Rattle.refusal.proofs.Numbers.{some_number}
use Rattle.book.proofs.Decode.{at_first, at_refused, at_next, at_end}
use Rattle.book.proofs.decode_blocks.Goals as goal

pub loop-n-init : goal.loop-n-init
loop-n-init c = rw c.requires (at_first _ _ c.told-table)

pub returns-in_err-decode_block : goal.returns-in_err-decode_block
returns-in_err-decode_block c =
    let p = err_from_is_err_and c.from_residual.result c.from_residual.ensures.1 in
    let e = c.in_err-decode_block.ensures in
    rw (p.1, p.2)
    (at_refused _ _ c.loop-n.n c.loop-n.decodes c.loop-n.invariant c.loop-n-test.true _ (record { refusal = _; decodes = _ }) e.block_decoded e.decodes_after (some_number _))

pub loop-n-preserved : goal.loop-n-preserved
loop-n-preserved c =
    let e = c.in_ok-decode_block.ensures in
    at_next _ _ c.loop-n.n c.loop-n.decodes c.loop-n.invariant c.loop-n-test.true _ (record { refusal = 0; decodes = _ }) e.block_decoded e.decodes_after refl

pub returns : goal.returns
returns c = at_end _ _ c.loop-n.n c.loop-n.decodes c.loop-n.invariant c.loop-n-test.false
