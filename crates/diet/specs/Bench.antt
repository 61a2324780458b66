-- A worked diet, its figures chosen so that each food shows.
-- Assumes nothing.
use Rattle.std.specs.Prelude.{◌≡◌, true, List, [], ◌∷◌, ◌++◌, map, ℕ, replicate}
use Rattle.block.specs.Block.{check_of}
use Rattle.foods.specs.Names.{can_fruit, can_veg, fresh_fruit, fresh_veg, vegetable, fruit, fish, game}
use Rattle.foods.specs.Figures.{shares_fit, amounts_fit}
use Rattle.foods.specs.Foods.{blank_figures}
use Rattle.foods.specs.Laws.{foods_body}
use Rattle.diet.specs.Diet.{food_lead, in_meat, half_bought, home_grown, caught, whole_foods, diet_at}

-- the grams of age 0, which alone eats, fifteen leads, four shares and their four leads
unfoldable pub worked_foods : List ℕ
worked_foods =
    (63 ∷ 32 ∷ 10 ∷ 4 ∷ 6 ∷ 171 ∷ 36 ∷ 34 ∷ 124 ∷ 20 ∷ 53 ∷ 35 ∷ 6 ∷ 40 ∷ 1 ∷ []) ++ replicate 90 0
    ++ (7 ∷ 11 ∷ 13 ∷ 17 ∷ 19 ∷ 3 ∷ 23 ∷ 29 ∷ 5 ∷ 33 ∷ 37 ∷ 41 ∷ 43 ∷ 47 ∷ 53 ∷ [])
    ++ (37 ∷ 25 ∷ 30 ∷ 15 ∷ [])
    ++ (61 ∷ 67 ∷ 71 ∷ 73 ∷ [])

-- its figures are accepted, and each term and the sum are computed; so are the checks of its block and of a block of zeros
pub record WorkedDiet : Type 0 where
  pub shares : shares_fit worked_foods ≡ true
  pub amounts : amounts_fit worked_foods ≡ true
  -- E-5d to E-5l
  pub meat : in_meat worked_foods 0 ≡ 789
  pub can_veg_lem : half_bought worked_foods 0 can_veg vegetable ≡ 21
  pub fresh_veg_lem : half_bought worked_foods 0 fresh_veg vegetable ≡ 310
  pub can_fruit_lem : half_bought worked_foods 0 can_fruit fruit ≡ 48
  pub fresh_fruit_lem : half_bought worked_foods 0 fresh_fruit fruit ≡ 310
  pub home_fruit : home_grown worked_foods 0 can_fruit fresh_fruit fruit ≡ 770
  pub home_veg : home_grown worked_foods 0 can_veg fresh_veg vegetable ≡ 857
  pub from_fish : caught worked_foods 0 fish ≡ 745
  pub from_game : caught worked_foods 0 game ≡ 383
  -- E-5m to E-5v
  pub whole : map (food_lead worked_foods 0) whole_foods ≡ 513 ∷ 1961 ∷ 258 ∷ 352 ∷ 1880 ∷ 441 ∷ 114 ∷ 53 ∷ 620 ∷ 660 ∷ []
  pub diet : diet_at worked_foods 0 ≡ 11_085
  pub next_age : diet_at worked_foods 1 ≡ 0
  pub check : check_of (foods_body worked_foods) ≡ 109_834
  pub blank_check : check_of (foods_body blank_figures) ≡ 3
