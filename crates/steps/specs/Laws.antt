-- The law of a day's shares.
-- Assumes nothing.
use Rattle.std.specs.Prelude.{◌≡◌, ℕ, ◌≤◌, ◌<◌}
use Rattle.numbers.specs.Sums.{sum_to}
use Rattle.steps.specs.Share.{share_of}

-- a day of any number of steps: the shares add up to T, and each is at most T
pub record ShareLaw (s T : ℕ) : Type 0 where
  pub total : sum_to s (share_of s T) ≡ T
  pub each : (k : ℕ) → k < s → share_of s T k ≤ T

abbrev pub ShareLaws : Type 0
ShareLaws = (s T : ℕ) → 0 < s → ShareLaw s T
