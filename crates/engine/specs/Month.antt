-- The month call: its refusals, and what it answers. s is the number of steps a day.
-- Assumes nothing.
use Rattle.std.specs.Prelude.{ℕ, List, [], ◌∷◌}
use Rattle.numbers.specs.Choice.{first_of}
use Rattle.row.specs.Row.{row_of}
use Rattle.kinetics.specs.declared.State.{State}
use Rattle.child.specs.Answers.{MonthAnswer}
use Rattle.child.specs.Month.{month_after, month_answer, child_refusal, month_last}
use Rattle.files.specs.Files.{Files, files_refusal, scenario_in, table_in}

-- why a month call is refused: the files, then 20, 21, 9, 22
abbrev pub month_refusals : ℕ → State → Files → List ℕ
month_refusals s a f = files_refusal f ∷ child_refusal s a (scenario_in f) (table_in f) ∷ []

unfoldable pub month_refusal : ℕ → State → Files → ℕ
month_refusal s a f = first_of (month_refusals s a f)

-- what the month call answers
unfoldable pub month_of : ℕ → State → Files → MonthAnswer
month_of s a f = month_answer (month_refusal s a f) a (month_last s a (scenario_in f) (table_in f)) (row_of (table_in f) (month_after a))
