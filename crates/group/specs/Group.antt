-- A group of up to 64 rows run together over one reading of their book (document 02, [4]). s is the number of steps a day.
-- Assumes nothing.
use Rattle.std.specs.Prelude.{ℕ, ◌*◌, min, List, [], ◌∷◌, ◌++◌, map, length, drop}
use Rattle.files.specs.Files.{Files, files_decodes}
use Rattle.lines.specs.Text.{line_start}
use Rattle.roll.specs.Words.{rows_a_group, starts_in}
use Rattle.roll.specs.Enrol.{group_of}
use Rattle.survey.specs.RowAnswer.{RowAnswer}
use Rattle.survey.specs.RowAnswer.{Blood, Skipped, Refused}
use Rattle.survey.specs.Survey.{files_then, row_answer}
use Rattle.group.specs.declared.GroupRead.{GroupRead}

-- an answer in words: 0 and the blood; 1 and 0 for a skipped row; 2 and the number of a refused one
abbrev pub words_an_answer : ℕ
words_an_answer = 2

abbrev pub answer_words : RowAnswer → List ℕ
answer_words (Blood b) = 0 ∷ b ∷ []
answer_words Skipped = 1 ∷ 0 ∷ []
answer_words (Refused n) = 2 ∷ n ∷ []

-- the answers of rows, a pair for each
unfoldable pub group_words : List RowAnswer → List ℕ
group_words [] = []
group_words (a ∷ rest) = answer_words a ++ group_words rest

-- the words lent for a group's answers; the answers in front, the places past them kept
abbrev pub answers_long : ℕ
answers_long = words_an_answer * rows_a_group

abbrev pub answered : List RowAnswer → List ℕ → List ℕ
answered given lent = group_words given ++ drop (words_an_answer * length given) lent

-- WHAT A GROUP OF A TEXT'S ROWS ANSWERS: each of its first 64 rows as it answers alone
unfoldable pub group_answers : ℕ → Files → List ℕ → List RowAnswer
group_answers s f text = map (row_answer s f) (group_of text)

-- and how many rows they are, how many blocks of the book are decoded for them, and where the next row starts
abbrev pub group_read : Files → List ℕ → GroupRead
group_read f text = record { rows = length (group_of text); decodes = files_decodes f; next = line_start rows_a_group text }

-- what the first n rows on a roll answer, 64 at most
unfoldable pub roll_answers : ℕ → Files → ℕ → List ℕ → List RowAnswer
roll_answers s f n roll = map (files_then s f) (starts_in (min n rows_a_group) roll)
