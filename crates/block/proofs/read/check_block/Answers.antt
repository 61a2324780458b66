-- `block::read::check_block` meets its contract: each way out is one case of `block_refusal`.
use mathlib.Core.Path.{sym, ◌∙◌}
use Rattle.numbers.specs.Choice.{unless}
use Rattle.block.proofs.BlockRefusals.{refused_check, refused_edition, refused_number, refused_reserved}
use Rattle.block.proofs.read.check_block.Goals as goal

pub returns-then-check-right : goal.returns-then-check-right
returns-then-check-right c = refused_check _ _ c.field_at-check.ensures c.check_of-right.ensures c.if-check-right.true

pub returns-then-its_edition-due : goal.returns-then-its_edition-due
returns-then-its_edition-due c =
    refused_edition _ _ c.field_at-check.ensures c.check_of-right.ensures
    c.if-check-right.false c.word_at-its_edition.ensures.0 c.if-its_edition-due.true

pub returns-then-its_number-due : goal.returns-then-its_number-due
returns-then-its_number-due c =
    refused_number _ _ c.field_at-check.ensures c.check_of-right.ensures
    c.if-check-right.false c.word_at-its_edition.ensures.0 c.if-its_edition-due.false c.word_at-its_number.ensures.0 c.if-its_number-due.true

pub returns-then-is_zero : goal.returns-then-is_zero
unfolding unless
returns-then-is_zero c =
    refused_reserved _ _ c.field_at-check.ensures c.check_of-right.ensures
    c.if-check-right.false c.word_at-its_edition.ensures.0 c.if-its_edition-due.false c.word_at-its_number.ensures.0
    c.if-its_number-due.false (sym c.is_zero.ensures ∙ c.if-is_zero.true)

pub returns-else-is_zero : goal.returns-else-is_zero
unfolding unless
returns-else-is_zero c =
    refused_reserved _ _ c.field_at-check.ensures c.check_of-right.ensures
    c.if-check-right.false c.word_at-its_edition.ensures.0 c.if-its_edition-due.false c.word_at-its_number.ensures.0
    c.if-its_number-due.false (sym c.is_zero.ensures ∙ c.if-is_zero.false)
