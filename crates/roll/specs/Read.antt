-- What becomes of a row of a roll, by what the code answers.
-- Assumes nothing.
use Rattle.std.specs.Prelude.{ℕ, Option, None, Some, Result, Ok, Err}
use Rattle.cardsite.specs.declared.running.RunningCard.{RunningCard}
use Rattle.cardsite.specs.Start.{Start, Runs, Skipped, Refused}

-- no card where the row is skipped; any number where it is refused
abbrev pub start_read : Result (Option RunningCard) ℕ → Start
start_read (Ok None) = Skipped
start_read (Ok (Some running)) = Runs running.card
start_read (Err n) = Refused n
