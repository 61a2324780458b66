-- `leaflet::grouped::put_grouped` meets its contract: a number's digits are those of its thousands, and the last three.
use Rattle.std.proofs.Common.{rules, arith, append_assoc, length-append}
use Rattle.leaflet.proofs.Threes.{grouped_one, grouped_last, thousands_short}
use Rattle.leaflet.proofs.grouped.+put_grouped.Goals as goal

pub returns-then-n-lt1000-clause-bytes : goal.returns-then-n-lt1000-clause-bytes
returns-then-n-lt1000-clause-bytes t c = rw (grouped_one c.args.n c.if-n-lt1000.true) c.put_decimal.ensures.bytes

pub put_last_three-requires : goal.put_last_three-requires
put_last_three-requires t c = grind (arith, c.put_grouped.ensures.bytes, thousands_short c.args.n c.requires.0, length-append)

pub returns-clause-bytes : goal.returns-clause-bytes
returns-clause-bytes t c = rw (grouped_last c.args.n c.requires.0 c.if-n-lt1000.false) (search (rules, append_assoc))

pub returns-clause-most : goal.returns-clause-most
returns-clause-most t c = grind (arith, c.put_grouped.ensures.bytes, thousands_short c.args.n c.requires.0, length-append)
