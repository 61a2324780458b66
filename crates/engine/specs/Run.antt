-- The run: birth and 84 months, into a lent list of blood figures. s is the number of steps a day.
-- Assumes nothing.
use Rattle.std.specs.Prelude.{ℕ, List, [], ◌∷◌, eqb}
use Rattle.numbers.specs.Choice.{unless, first_of, answer_by}
use Rattle.row.specs.Row.{last_month}
use Rattle.state.specs.State.{zero_state}
use Rattle.child.specs.Months.{MonthsRun, no_month, months_by}
use Rattle.files.specs.Files.{Files, length_refusal}
use Rattle.engine.specs.Birth.{birth_refusal, birth_of}
use Rattle.engine.specs.Month.{month_of}

-- the refusals of lengths, then 2 if the list has not 84 places, then those that are left
abbrev pub head_refusals : ℕ → ℕ → ℕ → List ℕ
head_refusals lengths places left = lengths ∷ unless (eqb places last_month) 2 ∷ left ∷ []

-- why a run does not start: 1, 2, then birth's numbers
abbrev pub start_refusals : Files → ℕ → List ℕ
start_refusals f places = head_refusals (length_refusal f) places (birth_refusal f)

unfoldable pub start_refusal : Files → ℕ → ℕ
start_refusal f places = first_of (start_refusals f places)

-- a run into a list of so many places
unfoldable pub run_of : ℕ → Files → ℕ → MonthsRun
run_of s f places =
    answer_by (start_refusal f places) (months_by (λ a. month_of s a f) last_month (birth_of f).state) (λ r. no_month r zero_state)
