-- The laws of the sums: each month of a run has them, they are parts of its day's T, and what is kept of any month is bounded.
-- Assumes nothing.
use Rattle.std.specs.Prelude.{◌≡◌, ℕ, suc, ◌+◌, ◌≤◌, ◌<◌, length, get_or}
use Rattle.row.specs.Row.{last_month}
use Rattle.uptake.specs.Uptake.{air_uptake}
use Rattle.uptake.specs.Laws.{routes_limit}
use Rattle.child.specs.Month.{exposure_in, month_uptake}
use Rattle.files.specs.Files.{Files, scenario_in, table_in}
use Rattle.engine.specs.Run.{run_of}
use Rattle.routes.specs.MonthlySums.{MonthlySums}
use Rattle.routes.specs.Sums.{month_sums, sums_refusal, monthly_sums}

-- a month that a run does has its sums
abbrev pub DoneLaw : Type 0
DoneLaw = (s : ℕ) (f : Files) (places k : ℕ) → k < length (run_of s f places).figures → sums_refusal f (suc k) ≡ 0

-- T of month m is the passive sum, the active sum and the uptake of air; and the two sums are together at most 5 × 10^9
pub record IsParted (f : Files) (m : ℕ) : Type 0 where
  pub total : (month_sums f m).passive + (month_sums f m).active + air_uptake (exposure_in (scenario_in f) m) ≡ month_uptake (scenario_in f) (table_in f) m
  pub most : (month_sums f m).passive + (month_sums f m).active ≤ routes_limit

-- each month that has its sums
abbrev pub PartedLaw : Type 0
PartedLaw = (f : Files) (m : ℕ) → m ≤ last_month → sums_refusal f m ≡ 0 → IsParted f m

-- both sums of each month are together at most 5 × 10^9
pub record SumsWithin (sums : MonthlySums) : Type 0 where
  pub together : (k : ℕ) → get_or sums.passive k 0 + get_or sums.active k 0 ≤ routes_limit

-- so are those that are kept of any files
abbrev pub KeptLaw : Type 0
KeptLaw = (f : Files) → SumsWithin (monthly_sums f)
