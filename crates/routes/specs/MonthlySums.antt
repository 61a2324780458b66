-- The sums of the two gut routes of each month, as two lists.
-- Assumes nothing.
use Rattle.std.specs.Prelude.{ℕ, List, map}
use Rattle.routes.specs.declared.RouteSums.{RouteSums}

pub record MonthlySums : Type 0 where
  pub passive : List ℕ
  pub active : List ℕ

-- those of a list with the sums of a month in each place
abbrev pub by_route : List RouteSums → MonthlySums
by_route sums = record { passive = map (λ s. s.passive) sums; active = map (λ s. s.active) sums }
