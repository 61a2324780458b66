-- The measure of `put_decimal`: the number that is left.
use Rattle.text.proofs.Line.+put_decimal.Given as goal

abbrev pub decreases-put_decimal : goal.decreases-put_decimal
decreases-put_decimal g l = l.n
