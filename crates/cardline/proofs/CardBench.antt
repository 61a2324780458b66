-- The lines and texts of the request, by computing.
-- Assumes nothing.
use mathlib.Core.Path.{refl}
use Rattle.text.specs.Decimal.{digits_within}
use Rattle.text.specs.Figure.{figure}
use Rattle.lines.specs.Text.{in_front, pieces, lines_of, rows_of}
use Rattle.cardline.specs.Cardline.{joined, card_printout}
use Rattle.cardline.specs.Bench.{Bench}

pub bench : Bench
unfolding digits_within figure in_front pieces lines_of rows_of joined card_printout
bench = record { blood = refl; skipped = refl; refused = refl; no_text = λ f. refl; no_line_feed = λ f. refl; no_row = λ f. refl }
