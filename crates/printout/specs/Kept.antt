-- What is kept of a run for its printout.
-- Assumes nothing.
use Rattle.std.specs.Prelude.{ℕ, List}
use Rattle.routes.specs.MonthlySums.{MonthlySums}

-- its refusal, the months done, and a place for each month's figure and for the sums of its day
pub record Prepared : Type 0 where
  pub refusal : ℕ
  pub months : ℕ
  pub blood : List ℕ
  pub sums : MonthlySums
