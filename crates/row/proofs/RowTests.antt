-- The tests of a row's limits.
-- Assumes nothing.
use Prim.Native.Nat.{ℕ, ◌+◌}
use mathlib.Core.Bool.{Bool}
use mathlib.Core.List.{List}
use lib.Dec.{leb}
use Rattle.row.specs.declared.Rates.{Rates}
use Rattle.row.specs.Row.{unit, back, exit, row_of, row_fits}

-- what compartment i gives back and loses is at most D
abbrev pub return_fits : Rates → ℕ → Bool
return_fits r i = leb (back r i + exit r i) unit

-- the row of a month is within its limits
abbrev pub month_fits : List ℕ → ℕ → Bool
month_fits table month = row_fits (row_of table month)
