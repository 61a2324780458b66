-- Rows of a text put on the roll, one after the other; a full roll takes none.
-- Assumes nothing.
use Rattle.std.specs.Prelude.{ℕ, suc, ◌+◌, cond, List, [], ◌∷◌, take, leb}
use Rattle.numbers.specs.Parts.{placed}
use Rattle.lines.specs.declared.RowText.{RowText}
use Rattle.lines.specs.declared.Reader.{Reader}
use Rattle.lines.specs.Walk.{Walk}
use Rattle.lines.specs.Text.{lines_of}
use Rattle.lines.specs.Walk.{walk_of}
use Rattle.card.specs.Row.{read_kept}
use Rattle.cardsite.specs.Start.{start_of}
use Rattle.roll.specs.Enrolled.{Enrolled}
use Rattle.roll.specs.Words.{rows_a_group, words_a_row, start_words}

-- the roll with a row, of what is kept of it, at place i
abbrev pub with_row : ℕ → RowText → List ℕ → List ℕ
with_row i kept roll = placed words_a_row i (start_words (start_of (read_kept kept))) roll

-- rows put on the roll one behind the other, from place i on
unfoldable pub with_rows : ℕ → List RowText → List ℕ → List ℕ
with_rows i [] roll = roll
with_rows i (kept ∷ rows) roll = with_rows (suc i) rows (with_row i kept roll)

-- a walk up to the end of a row: where it leads, with how many rows, and the roll with the row that has ended, if one has
abbrev pub walk_enrolled : Walk → ℕ → Enrolled
walk_enrolled w n = record { reader = w.reader; used = w.used; count = cond w.ended (n + 1) n }

abbrev pub walk_rolled : Walk → ℕ → List ℕ → List ℕ
walk_rolled w n roll = cond w.ended (with_row n w.row roll) roll

-- reading on through a piece of the text, with n rows on the roll
unfoldable pub enrolled : Reader → List ℕ → ℕ → Enrolled
enrolled r piece n = cond (leb rows_a_group n) (record { reader = r; used = 0; count = n }) (walk_enrolled (walk_of r piece) n)

unfoldable pub rolled : Reader → List ℕ → ℕ → List ℕ → List ℕ
rolled r piece n roll = cond (leb rows_a_group n) roll (walk_rolled (walk_of r piece) n roll)

-- the last row, if only the end of the text ends it
unfoldable pub count_with_last : Reader → ℕ → ℕ
count_with_last r n = cond (leb rows_a_group n) n (cond r.begun (n + 1) n)

unfoldable pub rolled_last : Reader → ℕ → List ℕ → List ℕ
rolled_last r n roll = cond (leb rows_a_group n) roll (cond r.begun (with_row n r.row roll) roll)

-- the rows that a group takes of a text of rows: its first 64
unfoldable pub group_of : List ℕ → List (List ℕ)
group_of text = take rows_a_group (lines_of text)
