-- What accepted files give a child is within its limits.
-- Assumes nothing.
use Rattle.std.specs.Prelude.{ℕ, ◌≤◌, List}
use Rattle.site.specs.declared.Scenario.{Scenario}
use Rattle.site.specs.Fields.{last_age}
use Rattle.site.specs.Scenario.{mother_of}
use Rattle.exposure.specs.Exposure.{exposure_at}
use Rattle.exposure.specs.Limits.{ExposureLimits}
use Rattle.row.specs.Row.{last_month, row_of}
use Rattle.row.specs.Limits.{RowLimits}

-- a scenario and a table that accepted files give
pub record Decoded (scenario : Scenario) (table : List ℕ) : Type 0 where
  pub exposure : (age : ℕ) → age ≤ last_age → ExposureLimits (exposure_at scenario age)
  pub mother : mother_of scenario ≤ 100_000
  pub row : (month : ℕ) → month ≤ last_month → RowLimits (row_of table month)
