-- `text::Line::put_decimal` meets its contract: a number's digits are those of its tenth, and its last one.
use Rattle.std.proofs.Common.{rules, arith, append_assoc, length-append}
use Rattle.text.proofs.Digits.{decimal_one, decimal_last, tenth_short}
use Rattle.text.proofs.Line.+put_decimal.Goals as goal

pub returns-then-n-lt10-clause-bytes : goal.returns-then-n-lt10-clause-bytes
returns-then-n-lt10-clause-bytes g t c = rw (decimal_one c.args.n c.if-n-lt10.true) c.put_digit.ensures

pub put_digit-requires-2 : goal.put_digit-requires-2
put_digit-requires-2 g t c = grind (arith, c.put_decimal.ensures.bytes, tenth_short c.args.n c.requires.0, length-append)

pub returns-clause-bytes : goal.returns-clause-bytes
returns-clause-bytes g t c =
    rw (decimal_last c.args.n c.requires.0 c.if-n-lt10.false) (search (rules, append_assoc))

pub returns-clause-most : goal.returns-clause-most
returns-clause-most g t c = grind (arith, c.put_decimal.ensures.bytes, tenth_short c.args.n c.requires.0, length-append)
