-- U-1, U-2 and U-5 of the q of so many eaten media, their passive percentages and SAT.
-- Assumes nothing.
use Rattle.std.specs.Prelude.{ℕ, ◌+◌, ◌-◌}
use Rattle.numbers.specs.Sums.{sum_to}
use Rattle.uptake.specs.Uptake.{percent_of, active_part}

-- u = floor(passive% × q / 100), the passive part of a medium's uptake (U-1)
unfoldable pub passive_from : (ℕ → ℕ) → (ℕ → ℕ) → ℕ → ℕ
passive_from q percents medium = percent_of (percents medium) (q medium)

module _ (media : ℕ) (q percents : ℕ → ℕ) (sat : ℕ) where
  -- floor((q−u) × SAT / (SAT+A)), its active part (U-1): A is the sum of the q (U-2)
  unfoldable pub active_from : ℕ → ℕ
  active_from medium = active_part (q medium - passive_from q percents medium) sat (sum_to media q)

  -- a medium's uptake: both parts
  unfoldable pub medium_from : ℕ → ℕ
  medium_from medium = passive_from q percents medium + active_from medium

  -- T (U-5): the uptake of the media, and that of air
  unfoldable pub day_from : ℕ → ℕ
  day_from air = sum_to media medium_from + air
