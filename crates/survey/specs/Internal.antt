-- For the contracts between the functions: what a row's months ask of the files. No open call's contract needs it.
-- Assumes nothing.
use Rattle.std.specs.Prelude.{ℕ, ◌≤◌, List}
use Rattle.site.specs.declared.Scenario.{Scenario}
use Rattle.site.specs.Limits.{PlacesWithin}
use Rattle.site.specs.Scenario.{mother_of}
use Rattle.site.specs.Laws.{Fits}
use Rattle.row.specs.Row.{last_month, row_of}
use Rattle.row.specs.Limits.{RowLimits}

-- a scenario and a table that accepted files give
pub record Ready (scenario : Scenario) (table : List ℕ) : Type 0 where
  pub fields : Fits scenario.fields
  pub places : PlacesWithin scenario.dust_places
  pub mother : mother_of scenario ≤ 100_000
  pub row : (month : ℕ) → month ≤ last_month → RowLimits (row_of table month)
