-- What a row answers: the blood figure at its AGE in thousandths of ug/dL, that it is skipped, or why it is refused.
-- Assumes nothing.
use Rattle.std.specs.Prelude.{ℕ, Option, None, Some, Result, Ok, Err}
use Rattle.refusal.specs.declared.Refusal.{Refusal}
use Rattle.refusal.specs.Refusal.{number_of}

pub data RowAnswer : Type 0 where
  Blood : ℕ → RowAnswer
  Skipped : RowAnswer
  Refused : ℕ → RowAnswer

-- a row's answer by what the code answers: no blood figure where it is skipped
abbrev pub answer_in : Result (Option ℕ) Refusal → RowAnswer
answer_in (Ok (Some blood)) = Blood blood
answer_in (Ok None) = Skipped
answer_in (Err refusal) = Refused (number_of refusal)

-- and of a row that runs
abbrev pub blood_in : Result ℕ Refusal → RowAnswer
blood_in (Ok blood) = Blood blood
blood_in (Err refusal) = Refused (number_of refusal)
