-- For the contracts between the functions: what a child of accepted files is given, and what the start of a run answers. No open call's contract needs it.
-- Assumes nothing.
use Rattle.std.specs.Prelude.{◌≡◌, ℕ, List, Result, Ok, Err}
use Rattle.refusal.specs.declared.Refusal.{Refusal}
use Rattle.refusal.specs.Refusal.{number_of}
use Rattle.state.specs.State.{zero_state}
use Rattle.site.specs.declared.Scenario.{Scenario}
use Rattle.files.specs.Files.{Files, files_refusal, scenario_in, table_in}
use Rattle.child.specs.declared.months.Run.{Run}
use Rattle.child.specs.Answers.{RunAnswer}
use Rattle.child.specs.Outcomes.{run_answer_in}

-- the scenario and the table of accepted files
pub record AreThoseOf (f : Files) (scenario : Scenario) (table : List ℕ) : Type 0 where
  pub accepted : files_refusal f ≡ 0
  pub scenario_is : scenario ≡ scenario_in f
  pub table_is : table ≡ table_in f

-- a run that is refused before its first month has the all-zero state
abbrev pub started_in : Result Run Refusal → RunAnswer
started_in (Ok run) = run_answer_in run
started_in (Err r) = record { refusal = number_of r; months = 0; state = zero_state }
