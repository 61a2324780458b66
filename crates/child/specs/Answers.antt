-- What the calls of a child answer: a refusal's number, 0 if there is none, and what is answered beside it.
-- Assumes nothing.
use Rattle.std.specs.Prelude.{ℕ}
use Rattle.kinetics.specs.declared.State.{State}

-- of birth
pub record BirthAnswer : Type 0 where
  pub refusal : ℕ
  pub state : State

-- of a month: the child at its end, and its blood figure in thousandths of ug/dL
pub record MonthAnswer : Type 0 where
  pub refusal : ℕ
  pub state : State
  pub blood : ℕ

-- of a child's course up to a month: the first refusal up to it; the child at its end, and its blood figure
pub record Course : Type 0 where
  pub refusal : ℕ
  pub state : State
  pub blood : ℕ

-- of a run: the months done, and the last month end
pub record RunAnswer : Type 0 where
  pub refusal : ℕ
  pub months : ℕ
  pub state : State
