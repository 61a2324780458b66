-- The diet intake of an age, pg/day: E-5a to E-5v of document 002, one floor for each food.
-- Assumes nothing.
use Rattle.std.specs.Prelude.{ℕ, ◌+◌, ◌-◌, ◌*◌, ◌/◌, List, [], ◌∷◌, length}
use Rattle.numbers.specs.Choice.{tab}
use Rattle.numbers.specs.Lists.{total_of}
use Rattle.site.specs.Fields.{ages}
use Rattle.foods.specs.Names.{beverage, bread, can_fruit, can_veg, candy, dairy, fresh_fruit, fresh_veg, formula, infant, juices, meat, nuts, pasta, sauce, vegetable, fruit, fish, game}
use Rattle.foods.specs.Figures.{grams_at, lead_of, share_of, local_lead_of, most_grams, most_lead}

-- E-4d to E-4r: the lead of a food's grams
unfoldable pub food_lead : List ℕ → ℕ → ℕ → ℕ
food_lead f age food = lead_of f food * grams_at f age food

-- E-5d: what fish and game leave of the meat (E-5a)
unfoldable pub in_meat : List ℕ → ℕ → ℕ
in_meat f age = (100 - share_of f fish - share_of f game) * food_lead f age meat / 100

-- E-5e to E-5h: of a canned or fresh food, half of what is not home-grown (E-5b, E-5c)
unfoldable pub half_bought : List ℕ → ℕ → ℕ → ℕ → ℕ
half_bought f age food local = (100 - share_of f local) * food_lead f age food / 200

-- E-5i, E-5j: home-grown, its share of the canned and fresh grams together, by its own lead
unfoldable pub home_grown : List ℕ → ℕ → ℕ → ℕ → ℕ → ℕ
home_grown f age canned fresh local = share_of f local * (grams_at f age canned + grams_at f age fresh) * local_lead_of f local / 100

-- E-5k, E-5l: fish or game, its share of the meat's grams, by its own lead
unfoldable pub caught : List ℕ → ℕ → ℕ → ℕ
caught f age local = share_of f local * grams_at f age meat * local_lead_of f local / 100

-- E-5m to E-5v, in that order: the foods that count whole
abbrev pub whole_foods : List ℕ
whole_foods = dairy ∷ juices ∷ nuts ∷ bread ∷ pasta ∷ beverage ∷ candy ∷ sauce ∷ formula ∷ infant ∷ []

abbrev pub whole_count : ℕ
whole_count = length whole_foods

unfoldable pub in_whole_foods : List ℕ → ℕ → ℕ
in_whole_foods f age = total_of (food_lead f age) whole_foods

-- the diet intake of an age from 0 to 6: the sum of E-5d to E-5v
unfoldable pub diet_at : List ℕ → ℕ → ℕ
diet_at f age =
    in_meat f age  -- E-5d
    + half_bought f age can_veg vegetable  -- E-5e
    + half_bought f age fresh_veg vegetable  -- E-5f
    + half_bought f age can_fruit fruit  -- E-5g
    + half_bought f age fresh_fruit fruit  -- E-5h
    + home_grown f age can_fruit fresh_fruit fruit  -- E-5i
    + home_grown f age can_veg fresh_veg vegetable  -- E-5j
    + caught f age fish  -- E-5k
    + caught f age game  -- E-5l
    + in_whole_foods f age  -- E-5m to E-5v

-- the diet intakes of ages 0 to 6
unfoldable pub diets_of : List ℕ → List ℕ
diets_of f = tab ages (diet_at f)

-- the most lead of a food's grams, pg/day, and the most diet, within the limits of 10 and 11
abbrev pub most_of_food : ℕ
most_of_food = most_grams * most_lead

abbrev pub most_diet : ℕ
most_diet = 150_000_000_000
