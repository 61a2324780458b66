-- `book::decode_block` meets its contract: refused by its header, or its numbers placed and its rows tested.
use Rattle.std.proofs.Common.{◌≡◌, sym, ◌∙◌, Bool}
use Rattle.std.proofs.lemmas.Result.{err_from_is_err_and}
use Rattle.numbers.specs.Choice.{unless}
use Rattle.refusal.proofs.Numbers.{some_number}
use Rattle.book.specs.Internal.{BlockDecoded}
use Rattle.book.proofs.Decode.{chunk_block, stored, refused_by_header, checked_rows}
use Rattle.book.proofs.decode_block.Goals as goal
use Rattle.book.proofs.decode_block.Goals.{After-rows_fit}

-- the numbers stored, by what the test of their rows answered
rows-tested : {fit : Bool} (c : After-rows_fit) → c.rows_fit.result ≡ fit →
    let a = c.args in
    BlockDecoded a.book.now a.n a.table.now (stored a.n c.read_numbers.new.target a.table.now) (unless fit 8)
rows-tested c answered =
    let its = chunk_block c.args.book.now c.args.n c.told-book c.requires.0 c.as_chunks.ensures.front in
    checked_rows _ c.args.n _ c.told-table its c.book_form.ensures c.requires.0 c.in_ok-check_block.ensures c.read_numbers.ensures (sym c.rows_fit.ensures ∙ answered)

-- the header is held to the form that the code made
pub returns-in_err-check_block-clause-block_decoded : goal.returns-in_err-check_block-clause-block_decoded
returns-in_err-check_block-clause-block_decoded c =
    let p = err_from_is_err_and c.from_residual.result c.from_residual.ensures.1 in
    let its = chunk_block c.args.book.now c.args.n c.told-book c.requires.0 c.as_chunks.ensures.front in
    rw (p.1, p.2) (refused_by_header c.args.book.now c.args.n c.args.table.now c.told-table its c.book_form.ensures c.in_err-check_block.ensures (some_number _))

pub returns-then-rows_fit-clause-block_decoded : goal.returns-then-rows_fit-clause-block_decoded
unfolding unless
returns-then-rows_fit-clause-block_decoded c = rows-tested (goal.at.returns-then-rows_fit-clause-block_decoded c).After-rows_fit c.if-rows_fit.true

pub returns-else-rows_fit-clause-block_decoded : goal.returns-else-rows_fit-clause-block_decoded
unfolding unless
returns-else-rows_fit-clause-block_decoded c = rows-tested (goal.at.returns-else-rows_fit-clause-block_decoded c).After-rows_fit c.if-rows_fit.false
