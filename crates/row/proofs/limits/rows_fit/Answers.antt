-- `row::limits::rows_fit` meets its contract: `all` answers for the five months.
use Rattle.std.proofs.Common.{◌≡◌, ◌+◌, ◌-◌, refl, ◌∙◌, arith, rules}
use Rattle.std.proofs.lemmas.Iterator.{YieldsList-from_range}
use Rattle.std.proofs.lemmas.Iterator.Search.{all_from_yields_List}
use borrow.Author.Tests.{tests}
use Rattle.numbers.proofs.RangeTests.{all_every}
use Rattle.row.specs.Row.{rows_a_block, rows_fit}
use Rattle.row.proofs.RowTests.{month_fits}
use Rattle.row.proofs.limits.rows_fit.Goals as goal

pub returns : goal.returns
unfolding rows_fit
returns c =
    let fits = month_fits c.args.table.now in
    let first = c.args.first in
    let five : first + rows_a_block - first ≡ rows_a_block = omega arith in
    all_from_yields_List fits _ _ _ c.all.ensures.ran (YieldsList-from_range first (first + rows_a_block) rows_a_block refl five) (λ x b q k. search (rules, tests))
    ∙ all_every fits first rows_a_block
