-- For the contracts between the functions: what they ask of their arguments, the five q with A, and how large a route's parts are. No open call's contract needs it.
-- Assumes nothing.
use Rattle.std.specs.Prelude.{◌≡◌, ℕ, ◌-◌, ◌≤◌, ◌<◌, List}
use Rattle.numbers.specs.Choice.{tab}
use Rattle.exposure.specs.declared.Exposure.{Exposure}
use Rattle.site.specs.Fields.{at}
use Rattle.uptake.specs.Uptake.{absorbable, absorbable_total, passive_uptake, active_part}

-- the five q of an exposure, and A
pub record AbsorbableOf (e : Exposure) (media : List ℕ) (total : ℕ) : Type 0 where
  pub listed : media ≡ tab 5 (absorbable e)
  pub summed : total ≡ absorbable_total e

-- the active part of an eaten medium's uptake, by a saturation
abbrev pub active_by : Exposure → ℕ → ℕ → ℕ
active_by e sat medium = active_part (absorbable e medium - passive_uptake e medium) sat (absorbable_total e)

-- a route's five parts, each at most 10^9
abbrev pub PartsLimits : List ℕ → Type 0
PartsLimits parts = (medium : ℕ) → medium < 5 → at parts medium ≤ 1_000_000_000
