-- `leaflet::page::put_least` meets its contract: the least ends within its column, and blanks fill it.
use Rattle.std.proofs.Common.{arith, ◌∙◌}
use Rattle.leaflet.proofs.PageLines.{least_within, column_put, column_long}
use Rattle.leaflet.proofs.page.put_least.Goals as goal

pub put_blanks-requires : goal.put_blanks-requires
put_blanks-requires c =
    let within = least_within c.args.figure.number _ (c.from.ensures ∙ c.least-least.ensures) c.put_grouped.ensures.bytes in
    rw c.bytes.ensures (within, omega (arith, c.requires))

pub returns-clause-bytes : goal.returns-clause-bytes
returns-clause-bytes c =
    rw c.bytes.ensures at c.put_blanks.ensures ∙ column_put c.args.figure.number _ (c.from.ensures ∙ c.least-least.ensures) c.put_grouped.ensures.bytes

pub returns-clause-most : goal.returns-clause-most
returns-clause-most c =
    rw (rw c.bytes.ensures at c.put_blanks.ensures) (column_long c.args.figure.number _ (c.from.ensures ∙ c.least-least.ensures) c.put_grouped.ensures.bytes)
