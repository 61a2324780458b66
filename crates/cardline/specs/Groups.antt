-- The printout as the program makes it: the lines of a group of rows at a time, of a text that comes in pieces.
-- Assumes nothing.
use Rattle.std.specs.Prelude.{ℕ, zero, suc, ◌-◌, List, [], ◌∷◌, ◌++◌, map, length}
use Rattle.files.specs.Files.{Files, files_decodes}
use Rattle.steps.specs.Steps.{steps_a_day}
use Rattle.lines.specs.declared.RowText.{RowText}
use Rattle.lines.specs.declared.Reader.{Reader}
use Rattle.lines.specs.Text.{in_front}
use Rattle.lines.specs.Stream.{start, after, ended, last}
use Rattle.roll.specs.Words.{rows_a_group}
use Rattle.survey.specs.Survey.{kept_answer}
use Rattle.group.specs.Group.{roll_answers}
use Rattle.cardline.specs.declared.LinesRead.{LinesRead}
use Rattle.cardline.specs.Cardline.{row_line, joined}

-- the lines of the first n rows on a roll; how many bytes they are, and how many blocks of the book are decoded for them
unfoldable pub group_lines : Files → ℕ → List ℕ → List ℕ
group_lines f n roll = joined (map row_line (roll_answers steps_a_day f n roll))

abbrev pub lines_read : Files → ℕ → List ℕ → LinesRead
lines_read f n roll = record { bytes = length (group_lines f n roll); decodes = files_decodes f }

-- the rows of a text that comes in pieces, of what is kept of them
unfoldable pub pieces_rows : Reader → List (List ℕ) → List RowText
pieces_rows r [] = last r
pieces_rows r (piece ∷ pieces) = ended r piece ++ pieces_rows (after r piece) pieces

-- rows in groups: with room for k more in the first group, each of the others takes 64
unfoldable pub groups_with : ℕ → List RowText → List (List RowText)
groups_with k [] = []
groups_with zero (row ∷ rows) = [] ∷ in_front row (groups_with (rows_a_group - 1) rows)
groups_with (suc k) (row ∷ rows) = in_front row (groups_with k rows)

abbrev pub groups_of : List RowText → List (List RowText)
groups_of rows = groups_with rows_a_group rows

-- the lines of rows, of what is kept of them; and what is printed, group by group
unfoldable pub kept_lines : Files → List RowText → List ℕ
kept_lines f rows = joined (map (λ (kept : RowText). row_line (kept_answer steps_a_day f kept)) rows)

unfoldable pub printed : Files → List (List ℕ) → List ℕ
printed f pieces = joined (map (kept_lines f) (groups_of (pieces_rows start pieces)))
