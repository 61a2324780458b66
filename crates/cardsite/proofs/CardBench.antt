-- The worked rows, by computing.
-- Assumes nothing.
use mathlib.Core.Path.{refl}
use Rattle.site.specs.Fields.{limits}
use Rattle.figures.specs.Figure.{digits_from, whole_of, fraction_of, thousandths_of, up_to, plain_field, figure_field}
use Rattle.lines.specs.Text.{in_front, pieces, filled, fields_of}
use Rattle.lines.specs.Summary.{any_long}
use Rattle.lines.specs.Answers.{answer_of}
use Rattle.card.specs.Row.{readings_by, any_wrong, card_in, read_by, read_row}
use Rattle.card.specs.Values.{skipped}
use Rattle.cardsite.specs.Over.{over_limit}
use Rattle.cardsite.specs.Bench.{bytes_of, start_written, Bench}

pub bench : Bench
unfolding
    bytes_of start_written limits digits_from whole_of fraction_of thousandths_of up_to plain_field figure_field in_front pieces filled fields_of any_long answer_of
    readings_by any_wrong card_in read_by read_row skipped over_limit
bench =
    record {
      run = (refl, (refl, (refl, (refl, (refl, (refl, (refl, (refl, (refl, (refl, (refl, (refl, tt))))))))))));
      skipped = (refl, (refl, (refl, (refl, (refl, tt)))));
      over = (refl, (refl, (refl, (refl, (refl, (refl, (refl, tt)))))));
      no_row = (refl, (refl, (refl, (refl, (refl, (refl, (refl, (refl, (refl, (refl, (refl, (refl, (refl, (refl, (refl, (refl, tt))))))))))))))));
      values = refl;
    }
