-- The bytes that leadcard prints, as a function of the bytes of its files (document 02, [2]).
-- Assumes nothing.
use Rattle.std.specs.Prelude.{ℕ, List, [], ◌∷◌, ◌++◌, map}
use Rattle.files.specs.Files.{Files}
use Rattle.steps.specs.Steps.{steps_a_day}
use Rattle.text.specs.Characters.{line_feed}
use Rattle.text.specs.Decimal.{decimal}
use Rattle.text.specs.Figure.{figure}
use Rattle.text.specs.Words.{refused_text}
use Rattle.lines.specs.Text.{rows_of}
use Rattle.survey.specs.RowAnswer.{RowAnswer}
use Rattle.survey.specs.RowAnswer.{Blood, Skipped, Refused}
use Rattle.survey.specs.Survey.{row_answer}

-- a row's line: its blood in leadline's decimals; `---` if it is skipped; `refused ` and the number
abbrev pub row_line : RowAnswer → List ℕ
row_line (Blood blood) = figure blood ++ (line_feed ∷ [])
row_line Skipped = 45 ∷ 45 ∷ 45 ∷ line_feed ∷ []
row_line (Refused number) = refused_text ++ (decimal number ++ (line_feed ∷ []))

-- lines, or pieces of a text, one after the other
unfoldable pub joined : List (List ℕ) → List ℕ
joined [] = []
joined (l ∷ ls) = l ++ joined ls

-- WHAT IS PRINTED of a card's text, at six steps a day: a line for each row, in the text's order
unfoldable pub card_printout : Files → List ℕ → List ℕ
card_printout f text = joined (map (λ (row : List ℕ). row_line (row_answer steps_a_day f row)) (rows_of text))
