-- The laws of a card's text: its lines and fields, and that reading it a byte at a time, in pieces of any size, gives its rows.
-- Assumes nothing.
use Rattle.std.specs.Prelude.{◌≡◌, false, ℕ, ◌≤◌, ◌<◌, length, drop}
use mathlib.Core.List.{List, [], ◌∷◌, ◌++◌, map, foldl}
use Rattle.text.specs.Characters.{line_feed, space}
use Rattle.numbers.specs.Lists.{Each}
use Rattle.lines.specs.declared.Reader.{Reader}
use Rattle.lines.specs.Walk.{Walk}
use Rattle.lines.specs.Text.{lines_of, line_start, rows_of, fields_of}
use Rattle.lines.specs.Summary.{summary_of, fed}
use Rattle.lines.specs.Answers.{answer_of, answer_in}
use Rattle.lines.specs.Stream.{row_start, after, ended, last, read_rows}
use Rattle.lines.specs.Walk.{walk_of, row_in}

-- no byte of the list is b
abbrev pub Without : ℕ → List ℕ → Type 0
Without b xs = Each (λ (x : ℕ). x ≡ b → ⊥) xs

-- the pieces with the byte b after each
abbrev pub ended_by : ℕ → List (List ℕ) → List ℕ
ended_by b [] = []
ended_by b (p ∷ ps) = p ++ (b ∷ ended_by b ps)

-- a line ends at a line feed or at the end of the text, and nothing after the last line feed is no line:
-- so no line has a line feed, and the lines are all of the text
pub record LinesLaw : Type 0 where
  pub line_feed_lem : (line text : List ℕ) → Without line_feed line → lines_of (line ++ (line_feed ∷ text)) ≡ line ∷ lines_of text
  pub end : (line : List ℕ) → Without line_feed line → 0 < length line → lines_of line ≡ line ∷ []
  pub nothing : lines_of [] ≡ []
  pub plain : (text : List ℕ) → Each (Without line_feed) (lines_of text)
  pub all : (text : List ℕ) → ended_by line_feed (lines_of (text ++ (line_feed ∷ []))) ≡ text ++ (line_feed ∷ [])

-- a field is a longest stretch without a space: a space or the row's end ends it, and spaces beside spaces are nothing
pub record FieldsLaw : Type 0 where
  pub space-ends : (field row : List ℕ) → Without space field → 0 < length field → fields_of (field ++ (space ∷ row)) ≡ field ∷ fields_of row
  pub end : (field : List ℕ) → Without space field → 0 < length field → fields_of field ≡ field ∷ []
  pub spaces : (row : List ℕ) → fields_of (space ∷ row) ≡ fields_of row
  pub nothing : fields_of [] ≡ []
  pub plain : (row : List ℕ) → Each (λ (field : List ℕ). Without space field × (0 < length field)) (fields_of row)

-- a row that is fed a byte at a time is kept as the whole row
abbrev pub SummaryLaw : Type 0
SummaryLaw = (row : List ℕ) → foldl fed (summary_of []) row ≡ summary_of row

-- what is kept of a row answers as the row, whatever is asked of its fields
abbrev pub AnswersLaw : Type 0 → Type 0
AnswersLaw A = (answer : List (List ℕ) → A) (refused : A) (row : List ℕ) → answer_in answer refused (summary_of row) ≡ answer_of answer refused row

-- a text that is read a byte at a time gives what is kept of its rows, in its order
abbrev pub RowsLaw : Type 0
RowsLaw = (text : List ℕ) → read_rows text ≡ map summary_of (rows_of text)

-- and so does a text of rows alone
abbrev pub PlainRowsLaw : Type 0
PlainRowsLaw = (text : List ℕ) → ended row_start text ++ last (after row_start text) ≡ map summary_of (lines_of text)

-- the lines of a text from the start of line k on are its lines after the first k
abbrev pub LineStartLaw : Type 0
LineStartLaw = (k : ℕ) (text : List ℕ) → lines_of (drop (line_start k text) text) ≡ drop k (lines_of text)

-- a text cut in two leads where the whole text leads, and the same rows end in it; and so, cut by cut, in any pieces
pub record Cut (r : Reader) (xs ys : List ℕ) : Type 0 where
  pub leads : after r (xs ++ ys) ≡ after (after r xs) ys
  pub rows : ended r (xs ++ ys) ≡ ended r xs ++ ended (after r xs) ys

abbrev pub CutsLaw : Type 0
CutsLaw = (r : Reader) (xs ys : List ℕ) → Cut r xs ys

-- a walk and then what is left of the piece lead where the piece leads, and pass its rows; a walk goes on, and stops only where a row ends or the piece
pub record Walked (r : Reader) (piece : List ℕ) (w : Walk) : Type 0 where
  pub leads : after w.reader (drop w.used piece) ≡ after r piece
  pub passes : row_in w ++ ended w.reader (drop w.used piece) ≡ ended r piece
  pub within : w.used ≤ length piece
  pub onward : 0 < length piece → 0 < w.used
  pub whole : w.ended ≡ false → w.used ≡ length piece

abbrev pub WalkLaw : Type 0
WalkLaw = (r : Reader) (piece : List ℕ) → Walked r piece (walk_of r piece)
