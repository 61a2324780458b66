-- The diet of figures within their limits is at most `most_diet`, and so is that of an accepted foods block.
-- Assumes nothing.
use mathlib.Core.Path.{◌≡◌}
use mathlib.Core.List.{List}
use Prim.Native.Nat.{ℕ, ◌+◌, ◌-◌, ◌*◌, ◌≤◌, ◌<◌}
use native.Mathlib.Nat.{mul-le-mul, mul-le-mul_left}
use native.Mathlib.Omega.{arith}
use lib.ListN.{get_or}
use Rattle.numbers.proofs.Every.{get_or-tab}
use Rattle.numbers.proofs.Sums.{sum_le, sum_same}
use Rattle.site.specs.Fields.{ages}
use Rattle.foods.specs.Names.{food_count, local_count, can_fruit, can_veg, fresh_fruit, fresh_veg, meat, vegetable, fruit, fish, game}
use Rattle.foods.specs.Figures.{grams_at, share_of}
use Rattle.foods.specs.Limits.{FoodsLimits}
use Rattle.foods.specs.Foods.{foods_figures}
use Rattle.foods.proofs.FiguresWithin.{foods_within}
use Rattle.diet.specs.Diet.{food_lead, in_meat, half_bought, home_grown, caught, whole_foods, whole_count, in_whole_foods, diet_at, diets_of, most_of_food, most_diet}
use Rattle.diet.specs.Laws.{DietWithin}
use Rattle.diet.proofs.TermBounds.{whole_at, whole_sum, whole_below}

-- the terms that share an amount, together
module _ (f : List ℕ) (limits : FoodsLimits f) (age : ℕ) (of-child : age < ages) where
  lead_le : (food : ℕ) → food < food_count → food_lead f age food ≤ most_of_food
  unfolding food_lead
  lead_le food h = mul-le-mul (limits.its_leads food h) (limits.its_grams age food of-child h)

  -- fish and game take shares of the meat's grams, and leave the rest
  meat_le : in_meat f age + caught f age fish + caught f age game ≤ most_of_food
  unfolding in_meat caught
  meat_le =
      let meat-grams = limits.its_grams age meat of-child (omega arith) in
      omega (
        arith,
        limits.fish_and_game,
        mul-le-mul_left (100 - share_of f fish - share_of f game) (lead_le meat (omega arith)),
        mul-le-mul (mul-le-mul_left (share_of f fish) meat-grams) (limits.local_leads fish (omega arith)),
        mul-le-mul (mul-le-mul_left (share_of f game) meat-grams) (limits.local_leads game (omega arith)),
      )

  -- the home-grown takes a share of the canned and fresh grams together, and leaves them half of the rest
  grown_le : (canned fresh local : ℕ) → canned < food_count → fresh < food_count → local < local_count
      → half_bought f age canned local + half_bought f age fresh local + home_grown f age canned fresh local ≤ 2 * most_of_food
  unfolding half_bought home_grown
  grown_le canned fresh local a b c =
      let grams : grams_at f age canned + grams_at f age fresh ≤ 20_000 = omega (arith, limits.its_grams age canned of-child a, limits.its_grams age fresh of-child b) in
      omega (
        arith,
        limits.each_share local c,
        mul-le-mul_left (100 - share_of f local) (lead_le canned a),
        mul-le-mul_left (100 - share_of f local) (lead_le fresh b),
        mul-le-mul (mul-le-mul_left (share_of f local) grams) (limits.local_leads local c),
      )

  whole_le : in_whole_foods f age ≤ whole_count * most_of_food
  unfolding whole_at
  whole_le =
      omega (arith, whole_sum f age, sum_le whole_count (whole_at f age) (λ i. most_of_food) (λ i h. lead_le (get_or whole_foods i 0) (whole_below i h)), sum_same whole_count most_of_food)

  pub diet_le : diet_at f age ≤ most_diet
  unfolding diet_at
  diet_le =
      omega (
        arith,
        meat_le,
        grown_le can_veg fresh_veg vegetable (omega arith) (omega arith) (omega arith),
        grown_le can_fruit fresh_fruit fruit (omega arith) (omega arith) (omega arith),
        whole_le,
      )

pub diet_within : DietWithin
diet_within block passed age h = diet_le (foods_figures block) (foods_within block passed) age (omega arith)

-- the diet of an age in the list of all, for a caller
pub diet_of_age : (f : List ℕ) (age : ℕ) → age < ages → get_or (diets_of f) age 0 ≡ diet_at f age
unfolding diets_of
diet_of_age f age h = get_or-tab ages (diet_at f) age h
