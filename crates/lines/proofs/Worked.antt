-- Small texts and rows, by computing.
-- Assumes nothing.
use mathlib.Core.Path.{refl}
use Rattle.lines.specs.Text.{in_front, pieces, filled, lines_of, rows_of, fields_of}
use Rattle.lines.specs.Bench.{WorkedTexts}

pub worked_texts : WorkedTexts
unfolding rows_of lines_of fields_of pieces in_front filled
worked_texts =
    record {
      no_text = refl;
      headings_alone = refl;
      headings-ended = refl;
      empty_row = refl;
      last_row = refl;
      two_fields = refl;
      one_field = refl;
    }
