-- The law of a card's rows: a row that is read a byte at a time is read as the whole row.
-- Assumes nothing.
use Rattle.std.specs.Prelude.{◌≡◌, List, map, ℕ}
use Rattle.lines.specs.Text.{rows_of}
use Rattle.lines.specs.Summary.{summary_of}
use Rattle.lines.specs.Stream.{read_rows}
use Rattle.card.specs.Row.{read_row, read_kept}

-- what is kept of a row is read as the row
abbrev pub RowReadLaw : Type 0
RowReadLaw = (row : List ℕ) → read_kept (summary_of row) ≡ read_row row

-- a text that is read a byte at a time says what its rows say, in its order
abbrev pub TextReadLaw : Type 0
TextReadLaw = (text : List ℕ) → map read_kept (read_rows text) ≡ map read_row (rows_of text)
