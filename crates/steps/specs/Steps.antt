-- The steps of a month: the uptakes of its days, and the states they lead through. s is the number of steps a day.
-- Assumes nothing.
use Rattle.std.specs.Prelude.{ℕ, zero, suc, ◌+◌, List, [], ◌∷◌, ◌++◌}
use Rattle.numbers.specs.Choice.{or_else}
use Rattle.row.specs.declared.Rates.{Rates}
use Rattle.kinetics.specs.declared.State.{State}
use Rattle.state.specs.State.{burden_refusal}
use Rattle.steps.specs.Share.{share_of}
use Rattle.kinetics.specs.Step.{burden, Exits, exits, next}

-- six steps a day, 30 days a month
abbrev pub steps_a_day : ℕ
steps_a_day = 6

abbrev pub days_a_month : ℕ
days_a_month = 30

-- what n steps absorb of a day's uptake T, from step k on
unfoldable pub shares_from : ℕ → ℕ → ℕ → ℕ → List ℕ
shares_from s T k zero = []
shares_from s T k (suc n) = share_of s T k ∷ shares_from s T (k + 1) n

-- what the steps of a day absorb, and those of n days
abbrev pub day_shares : ℕ → ℕ → List ℕ
day_shares s T = shares_from s T 0 s

unfoldable pub days_shares : ℕ → ℕ → ℕ → List ℕ
days_shares s T zero = []
days_shares s T (suc n) = day_shares s T ++ days_shares s T n

-- a step: the state before it, its rates, its uptake U; then its exits, and the state that it leaves
pub record Step : Type 0 where
  pub before : State
  pub rates : Rates
  pub uptake : ℕ

abbrev pub exits_of : Step → Exits
exits_of x = exits x.rates x.before.lead x.uptake

abbrev pub leaves : Step → State
leaves x = next x.rates x.before x.uptake

-- the steps from a that absorb us, one after the other; each has the rates that the state before it gives
unfoldable pub steps_from : (State → Rates) → State → List ℕ → List Step
steps_from rates a [] = []
steps_from rates a (u ∷ us) = record { before = a; rates = rates a; uptake = u } ∷ steps_from rates (next (rates a) a u) us

-- the state after these steps
unfoldable pub last_from : (State → Rates) → State → List ℕ → State
last_from rates a [] = a
last_from rates a (u ∷ us) = last_from rates (next (rates a) a u) us

-- 22: burden plus uptake over 5 × 10^10 at some step
unfoldable pub steps_refusal : (State → Rates) → State → List ℕ → ℕ
steps_refusal rates a [] = 0
steps_refusal rates a (u ∷ us) = or_else (burden_refusal (burden a.lead + u)) (steps_refusal rates (next (rates a) a u) us)
