-- The law of the diet intake.
-- Assumes nothing.
use Rattle.std.specs.Prelude.{◌≡◌, List, ℕ, ◌≤◌}
use Rattle.site.specs.Fields.{last_age}
use Rattle.foods.specs.Foods.{foods_refusal, foods_figures}
use Rattle.diet.specs.Diet.{diet_at}

-- the diet of an accepted block is at most 1.5 × 10^11 pg/day at each age
abbrev pub DietWithin : Type 0
DietWithin = (block : List ℕ) → foods_refusal block ≡ 0 → (age : ℕ) → age ≤ last_age → diet_at (foods_figures block) age ≤ 150_000_000_000
