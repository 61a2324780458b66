-- What the rows of a group answer, by what the code answers.
-- Assumes nothing.
use Rattle.std.specs.Prelude.{ℕ, List, map, take, Option, None, Some, Result, Ok, Err}
use Rattle.survey.specs.RowAnswer.{RowAnswer, Blood, Skipped, Refused}

-- no blood figure where a row is skipped; any number where it is refused
abbrev pub answer_read : Result (Option ℕ) ℕ → RowAnswer
answer_read (Ok (Some blood)) = Blood blood
answer_read (Ok None) = Skipped
answer_read (Err n) = Refused n

-- the answers of the first n rows
abbrev pub answers_read : ℕ → List (Result (Option ℕ) ℕ) → List RowAnswer
answers_read n answers = map answer_read (take n answers)
