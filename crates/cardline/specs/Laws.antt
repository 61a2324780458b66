-- The laws of a card's printout.
-- Assumes nothing.
use Rattle.std.specs.Prelude.{◌≡◌, List, [], ◌∷◌, ℕ, ◌+◌, ◌≤◌, ◌<◌, length, take, drop}
use Rattle.block.specs.Block.{block_bytes}
use Rattle.book.specs.Book.{book_bytes}
use Rattle.files.specs.Files.{Files, files_of}
use Rattle.files.specs.Laws.{Counted}
use Rattle.lines.specs.declared.RowText.{RowText}
use Rattle.roll.specs.Words.{rows_a_group, roll_words}
use Rattle.roll.specs.Enrol.{with_rows}
use Rattle.cardline.specs.Cardline.{joined, card_printout}
use Rattle.cardline.specs.Groups.{group_lines, lines_read, groups_of, kept_lines, printed}

-- the rows of a group, put on a roll one behind the other, are printed as each row is alone
abbrev pub GroupLaw : Type 0
GroupLaw =
    (f : Files) (rows : List RowText) → length rows ≤ rows_a_group → (roll : List ℕ) → length roll ≡ roll_words
    → group_lines f (length rows) (with_rows 0 rows roll) ≡ kept_lines f rows

-- groups of 64 rows in their order, the last one shorter
pub record GroupsLaw : Type 0 where
  pub more : (rows : List RowText) → rows_a_group < length rows → groups_of rows ≡ take rows_a_group rows ∷ groups_of (drop rows_a_group rows)
  pub last : (rows : List RowText) → 0 < length rows → length rows ≤ rows_a_group → groups_of rows ≡ rows ∷ []
  pub none : groups_of [] ≡ []

-- a text is printed group by group, wherever it is cut into pieces
abbrev pub PiecesLaw : Type 0
PiecesLaw = (f : Files) (pieces : List (List ℕ)) → printed f pieces ≡ card_printout f (joined pieces)

-- the count of a group of leadcard is that of its files, whatever its rows are
abbrev pub DecodesLaw : Type 0
DecodesLaw = (f : Files) (n : ℕ) (roll : List ℕ) → Counted f (lines_read f n roll).decodes

-- a longer site file or book is refused by its length: one byte past each format is enough to read
abbrev pub FirstBytesLaw : Type 0
FirstBytesLaw =
    (site book text : List ℕ) → card_printout (files_of (take (block_bytes + 1) site) (take (book_bytes + 1) book)) text ≡ card_printout (files_of site book) text
