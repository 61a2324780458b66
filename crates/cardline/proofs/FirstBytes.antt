-- The first bytes of the site file and the book are enough: files of a wrong length refuse every row with 1.
-- Assumes nothing.
use mathlib.Core.Path.{◌≡◌, refl, ap, ap₂, ◌∙◌}
use mathlib.Core.List.{List, [], ◌∷◌, ◌++◌, map}
use Prim.Native.Nat.{ℕ}
use native.Mathlib.Omega.{arith}
use Rattle.files.specs.Files.{Files, length_refusal, before_book_refusal, files_refusal}
use Rattle.files.proofs.FirstBytes.{first_bytes}
use Rattle.steps.specs.Steps.{steps_a_day}
use Rattle.lines.specs.Text.{rows_of}
use Rattle.survey.specs.RowAnswer.{Refused}
use Rattle.survey.specs.Survey.{row_answer}
use Rattle.survey.proofs.RowLaws.{files_first}
use Rattle.cardline.specs.Cardline.{row_line, joined, card_printout}
use Rattle.cardline.specs.Laws.{FirstBytesLaw}

-- a line `refused 1` for each row
refused_lines : List (List ℕ) → List ℕ
refused_lines rows = joined (map (λ (row : List ℕ). row_line (Refused 1)) rows)

module _ (f : Files) (wrong : length_refusal f ≡ 1) where
  files_refused : files_refusal f ≡ 1
  unfolding files_refusal before_book_refusal
  files_refused = rw wrong

  row_refused : (row : List ℕ) → row_answer steps_a_day f row ≡ Refused 1
  row_refused row = files_first steps_a_day f row (λ e. omega (arith, files_refused, e)) ∙ ap Refused files_refused

  rows_refused : (rows : List (List ℕ)) → joined (map (λ (row : List ℕ). row_line (row_answer steps_a_day f row)) rows) ≡ refused_lines rows
  unfolding joined refused_lines
  rows_refused [] = refl
  rows_refused (row ∷ rows) = ap₂ ◌++◌ (ap row_line (row_refused row)) (rows_refused rows)

pub first_bytes_law : FirstBytesLaw
unfolding card_printout
first_bytes_law site book text =
    first_bytes (λ f. card_printout f text) (refused_lines (rows_of text)) (λ f wrong. rows_refused f wrong (rows_of text)) site book
