-- The law of a row.
-- Assumes nothing.
use Rattle.std.specs.Prelude.{◌≡◌, true}
use Rattle.row.specs.declared.Row.{Row}
use Rattle.row.specs.Row.{row_fits}
use Rattle.row.specs.Limits.{RowLimits}

-- a row that passes its test is within its limits
abbrev pub RowWithin : Type 0
RowWithin = (w : Row) → row_fits w ≡ true → RowLimits w
