-- The limits that the figures of an accepted foods block keep (`FoodsWithin`).
-- Assumes nothing.
use Rattle.std.specs.Prelude.{ℕ, ◌+◌, ◌≤◌, ◌<◌, List}
use Rattle.site.specs.Fields.{ages}
use Rattle.foods.specs.Names.{food_count, local_count, fish, game}
use Rattle.foods.specs.Figures.{grams_at, lead_of, share_of, local_lead_of, most_grams, most_lead, most_share}

-- each figure within its limit
pub record FoodsLimits (f : List ℕ) : Type 0 where
  pub its_grams : (age food : ℕ) → age < ages → food < food_count → grams_at f age food ≤ most_grams
  pub its_leads : (food : ℕ) → food < food_count → lead_of f food ≤ most_lead
  pub each_share : (local : ℕ) → local < local_count → share_of f local ≤ most_share
  pub fish_and_game : share_of f fish + share_of f game ≤ most_share
  pub local_leads : (local : ℕ) → local < local_count → local_lead_of f local ≤ most_lead
