-- What each step of a day absorbs (document 01, "One step").
-- Assumes nothing.
use Rattle.std.specs.Prelude.{ℕ, ◌+◌, ◌-◌, ◌*◌, ◌/◌}

-- step k of a day of s steps, with T the day's uptake
unfoldable pub share_of : ℕ → ℕ → ℕ → ℕ
share_of s T k = T * (k + 1) / s - T * k / s
