-- `book::read_book` meets its contract: each way out is one case of `book_refusal`, `book_decodes` and `book_table`.
use Rattle.std.proofs.Common.{sym, ◌∙◌}
use Rattle.refusal.proofs.Numbers.{err_number, ok_number}
use Rattle.book.proofs.ReadAnswers.{refused_length, refused_block, accepted_book}
use Rattle.book.proofs.read_book.Goals as goal

pub returns-in_default : goal.returns-in_default
returns-in_default c =
    let whole = refused_length c.args.book.now c.in_default.ensures.1 c.told-table (c.fill.ensures.after (λ y e. e)) in
    record { number = whole.0; decodes_after = whole.1.0; table_after = whole.1.1 }

pub returns-then-is_err : goal.returns-then-is_err
returns-then-is_err c =
    let array = c.in-Ok.ensures.1 in
    let refused = err_number c.decode_blocks-decoded.result (sym c.is_err.ensures.value ∙ c.if-is_err.true) in
    let whole = refused_block c.args.book.now array.long (rw array.same at c.decode_blocks-decoded.ensures) refused (c.fill-then-is_err.ensures.after (λ y e. e)) in
    record { number = whole.0; decodes_after = whole.1.0; table_after = whole.1.1 }

pub returns-else-is_err : goal.returns-else-is_err
returns-else-is_err c =
    let array = c.in-Ok.ensures.1 in
    let accepted = ok_number c.decode_blocks-decoded.result (sym c.is_err.ensures.value ∙ c.if-is_err.false) in
    let whole = accepted_book c.args.book.now array.long (rw array.same at c.decode_blocks-decoded.ensures) accepted in
    record { number = whole.0; decodes_after = whole.1.0; table_after = whole.1.1 }
