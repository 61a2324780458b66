-- The row of 23 numbers is put together as the definition has it: the six rates from OUT and from BACK on are lists by their places.
use Rattle.std.proofs.Common.{◌≡◌, ◌+◌, ℕ, refl, get_or, rules}
use Rattle.numbers.specs.Choice.{tab}
use Rattle.numbers.proofs.ByIndex.{from_fn_is}
use Rattle.row.proofs.table.RowFromArrayU64placesROWNUMBERS.from.Goals as goal

pub returns : goal.returns
unfolding tab
returns c =
    let numbers = c.args.numbers in
    let from = λ (k i : ℕ). get_or numbers (k + i) 0 in
    let out : c.from_fn.result ≡ tab 6 (from 8) = from_fn_is _ (from 8) 6 _ (λ i y q l k. search rules) c.from_fn.ensures.items in
    let back : c.from_fn-2.result ≡ tab 6 (from 15) = from_fn_is _ (from 15) 6 _ (λ i y q l k. search rules) c.from_fn-2.ensures.items in
    rw (out, back) refl
