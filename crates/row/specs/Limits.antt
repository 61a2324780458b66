-- The limits that a row within limits keeps (`RowWithin`), and so each row of an accepted book.
-- Assumes nothing.
use Rattle.std.specs.Prelude.{ℕ, ◌+◌, ◌*◌, ◌≤◌, ◌<◌}
use Rattle.numbers.specs.Sums.{sum_to}
use Rattle.row.specs.declared.Rates.{Rates}
use Rattle.row.specs.declared.Row.{Row}
use Rattle.row.specs.Row.{unit, out, back, exit}

-- the limits of the rates that a step needs; a1 may be 0
pub record RateLimits (r : Rates) : Type 0 where
  pub total : sum_to 6 (out r) + r.urine ≤ 64 * unit
  pub each : (i : ℕ) → i < 6 → back r i + exit r i ≤ unit
  pub faeces : 2 * r.faeces ≤ unit
  pub skin : 2 * r.skin ≤ unit

-- a row's limits, as an accepted book keeps them
pub record RowLimits (w : Row) : Type 0 where
  pub blood_least : 1_000 ≤ w.blood_volume
  pub blood_most : w.blood_volume ≤ 60_000
  pub plasma_least : 1 ≤ w.plasma_volume
  pub plasma_most : w.plasma_volume < w.blood_volume
  pub body_least : 2_000 ≤ w.body_weight
  pub body_most : w.body_weight ≤ 50_000
  pub kidney : w.kidney ≤ 50_000
  pub liver : w.liver ≤ 50_000
  pub other : w.other ≤ 50_000
  pub trabecular : w.trabecular ≤ 50_000
  pub cortical : w.cortical ≤ 50_000
  pub red_cells : 1 ≤ out w.rates 0
  pub rates : RateLimits w.rates
