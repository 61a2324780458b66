-- For the contracts between the functions: what reading a call's files leaves. No open call's contract needs it.
-- Assumes nothing.
use Rattle.std.specs.Prelude.{◌≡◌, ℕ, List, Result, Ok, Err}
use Rattle.refusal.specs.declared.Refusal.{Refusal}
use Rattle.refusal.specs.Refusal.{number_of}
use Rattle.site.specs.declared.Scenario.{Scenario}
use Rattle.site.specs.Scenario.{blank_scenario}
use Rattle.files.specs.FilesRead.{FilesRead}
use Rattle.files.specs.Files.{Files, files_refusal, files_decodes, scenario_in, table_in}

-- a call's answer, with the number of blocks decoded beside it
abbrev pub read_with : Result Scenario Refusal → ℕ → FilesRead
read_with (Ok s) decodes = record { refusal = 0; decodes = decodes; scenario = s }
read_with (Err r) decodes = record { refusal = number_of r; decodes = decodes; scenario = blank_scenario }

-- all is read, the book into a table
pub record FilesAreRead (f : Files) (table : List ℕ) (r : FilesRead) : Type 0 where
  pub refusal : r.refusal ≡ files_refusal f
  pub decodes : r.decodes ≡ files_decodes f
  pub scenario : r.refusal ≡ 0 → r.scenario ≡ scenario_in f
  pub table_is : r.refusal ≡ 0 → table ≡ table_in f
