-- A row's answer in the paper's number and values, for each of its cases.
-- Assumes nothing.
use Rattle.std.specs.Prelude.{ℕ, Bool, true, false}
use Rattle.survey.specs.RowAnswer.{RowAnswer}
use Rattle.survey.specs.RowAnswer.{Blood, Skipped, Refused}

-- the number: a row that runs and a row that is skipped are not refused
abbrev pub row_number : RowAnswer → ℕ
row_number (Blood b) = 0
row_number Skipped = 0
row_number (Refused n) = n

-- the blood figure, thousandths of ug/dL: 0 beside a skip or a refusal
abbrev pub row_blood : RowAnswer → ℕ
row_blood (Blood b) = b
row_blood Skipped = 0
row_blood (Refused n) = 0

abbrev pub row_skipped : RowAnswer → Bool
row_skipped (Blood b) = false
row_skipped Skipped = true
row_skipped (Refused n) = false
