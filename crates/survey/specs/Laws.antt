-- The laws of a survey's rows. s is the number of steps a day.
-- Assumes nothing.
use Rattle.std.specs.Prelude.{◌≡◌, List, ℕ, ◌+◌, ◌≤◌, ◌<◌, length, get_or}
use Rattle.files.specs.Files.{Files, files_refusal, scenario_in, table_in}
use Rattle.row.specs.Row.{last_month}
use Rattle.child.specs.Months.{MonthsRun}
use Rattle.child.specs.Laws.{run_from_birth}
use Rattle.engine.specs.Run.{run_of}
use Rattle.lines.specs.Summary.{summary_of}
use Rattle.card.specs.declared.Card.{Card}
use Rattle.card.specs.Row.{read_row}
use Rattle.card.specs.Values.{months_of}
use Rattle.cardsite.specs.Start as start
use Rattle.cardsite.specs.Start.{start_of}
use Rattle.cardsite.specs.Fields.{row_scenario}
use Rattle.survey.specs.RowAnswer.{RowAnswer}
use Rattle.survey.specs.RowAnswer.{Blood, Refused}
use Rattle.survey.specs.Survey.{row_answer, kept_answer}

-- what is kept of a row answers as the row
abbrev pub KeptLaw : Type 0
KeptLaw = (s : ℕ) (f : Files) (row : List ℕ) → kept_answer s f (summary_of row) ≡ row_answer s f row

-- files that are refused refuse every row, with their number
abbrev pub FilesFirst : Type 0
FilesFirst = (s : ℕ) (f : Files) (row : List ℕ) → (files_refusal f ≡ 0 → ⊥) → row_answer s f row ≡ Refused (files_refusal f)

-- a row that runs over accepted files, up to the month that follows m months
pub record Runs (f : Files) (row : List ℕ) (c : Card) (m : ℕ) : Type 0 where
  pub accepted : files_refusal f ≡ 0
  pub starts : start_of (read_row row) ≡ start.Runs c
  pub age : months_of c.age ≡ m + 1

-- an answer as a run has it in that month: its figure if the run did it, else the refusal that ended the run before
pub record AsTheRun (r : MonthsRun) (m : ℕ) (answer : RowAnswer) : Type 0 where
  pub done : m < length r.figures → answer ≡ Blood (get_or r.figures m 0)
  pub ended : length r.figures ≤ m → answer ≡ Refused r.refusal

-- it answers as the run of its own scenario
abbrev pub OwnRunLaw : Type 0
OwnRunLaw =
    (s : ℕ) (f : Files) (row : List ℕ) (c : Card) (m : ℕ) → Runs f row c m
    → AsTheRun (run_from_birth s (row_scenario c (scenario_in f)) (table_in f) last_month) m (row_answer s f row)

-- and as the files' own run, if it changes nothing of their scenario
abbrev pub RunLaw : Type 0
RunLaw =
    (s : ℕ) (f : Files) (row : List ℕ) (c : Card) (m : ℕ) → Runs f row c m → row_scenario c (scenario_in f) ≡ scenario_in f
    → AsTheRun (run_of s f last_month) m (row_answer s f row)
