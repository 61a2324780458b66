-- The margin of demand 3: a plasma lead against the exact solution's N/Q (document 01, "One step").
-- Assumes nothing.
use Rattle.std.specs.Prelude.{ℕ, ◌+◌, ◌-◌, ◌*◌, ◌≤◌, ◌<◌, List}
use Rattle.row.specs.declared.Rates.{Rates}
use Rattle.row.specs.Row.{unit}
use Rattle.kinetics.specs.Step.{plasma, amount}
use Rattle.kinetics.specs.Solution.{denominator, numerator}

-- P is a plasma lead after the step from `lead` that absorbs u: N ≤ P × Q, and D × (P × Q − N) < 459 × D × Q + 384 × N
pub record Margin (r : Rates) (lead : List ℕ) (u P : ℕ) : Type 0 where
  pub least : numerator r (plasma lead) (amount lead) u ≤ P * denominator r
  pub most : unit * (P * denominator r - numerator r (plasma lead) (amount lead) u)
      < 459 * unit * denominator r + 384 * numerator r (plasma lead) (amount lead) u
