-- `block::write::write_block` meets its contract: the copied body and the stored check are the sealed body.
use Rattle.std.proofs.Common.{ℕ, List, ◌++◌, sym, ap, ◌∙◌, length, drop}
use lib.Seq.{take-length}
use Rattle.block.proofs.Writer.{unwritable_body, unwritable_target, left_written, stored_written}
use Rattle.block.proofs.write.write_block.Goals as goal

pub returns-then-body-ne-CHECK_AT : goal.returns-then-body-ne-CHECK_AT
returns-then-body-ne-CHECK_AT c =
    let whole =
    left_written _ _ (unwritable_body _ _ c.if-body-ne-CHECK_AT.true) in
    record { number = whole.0; target_after = whole.1 }

pub returns : goal.returns
returns c =
    let a = c.args in
    let copied = c.copy.ensures ∙ ap (λ (front : List ℕ). front ++ drop (length a.body.now) a.target.now) (sym (take-length a.body.now)) in
    let whole = stored_written a.body.now a.target.now c.if-body-ne-CHECK_AT.false c.if-target-ne-BLOCK_BYTES.false copied c.check_of-check.ensures c.put_field.ensures in
    record { number = whole.0; target_after = whole.1 }

pub returns-then-target-ne-BLOCK_BYTES : goal.returns-then-target-ne-BLOCK_BYTES
returns-then-target-ne-BLOCK_BYTES c =
    let whole = left_written _ _ (unwritable_target _ _ c.if-body-ne-CHECK_AT.false c.if-target-ne-BLOCK_BYTES.true) in
    record { number = whole.0; target_after = whole.1 }
