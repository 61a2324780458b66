-- The lines that document 01 shows, with the two sums of document 02, [6].
-- Assumes nothing.
use mathlib.Core.Path.{refl}
use mathlib.Core.List.{[]}
use native.Mathlib.Omega.{arith}
use Rattle.text.specs.Decimal.{digits_within}
use Rattle.text.specs.Figure.{figure}
use Rattle.printout.specs.Printout.{month_line, refused_line}
use Rattle.printout.specs.Bench.{Bench}
use Rattle.printout.proofs.FirstBytes.{book_printed}

pub bench : Bench
unfolding digits_within figure month_line refused_line
bench = record { below = refl; over = refl; down = refl; up = refl; empty = λ site. book_printed site [] (λ e. omega arith) }
