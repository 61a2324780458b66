-- The terms of the diet with their bounds, by what the code computes them from.
-- Assumes nothing.
use mathlib.Core.Path.{◌≡◌, refl, sym, ap, ap₂}
use mathlib.Core.Bool.{true}
use mathlib.Core.List.{List, [], ◌∷◌}
use Prim.Native.Nat.{ℕ, ◌+◌, ◌-◌, ◌*◌, ◌/◌, ◌<◌}
use native.Mathlib.Nat.{mul-le-mul}
use native.Mathlib.Omega.{arith}
use lib.ListN.{get_or}
use Rattle.std.proofs.lemmas.List.{get_or-map}
use Rattle.foods.specs.declared.places.Food.{Food}
use Rattle.foods.specs.declared.places.Food.TheVariants.{Dairy, Juices, Nuts, Bread, Pasta, Beverage, Candy, Sauce, Formula, Infant}
use Rattle.foods.specs.Places.{place_of}
use lib.Dec.{ltb}
use borrow.Author.Tests.{ltb-true}
use Rattle.numbers.specs.Bounds.{Is}
use Rattle.numbers.specs.Choice.{every}
use Rattle.numbers.specs.Sums.{sum_to}
use Rattle.numbers.proofs.Every.{every-at}
use Rattle.foods.specs.Names.{food_count, meat, fish, game}
use Rattle.foods.specs.Figures.{grams_at, lead_of, share_of, local_lead_of, most_grams, most_lead, most_share}
use Rattle.diet.specs.Diet.{food_lead, in_meat, half_bought, home_grown, caught, whole_foods, whole_count, in_whole_foods, most_of_food}

-- sums, products and floors of numbers with bounds
pub plus : {x y m n a b : ℕ} → Is x m a → Is y n b → Is (x + y) (m + n) (a + b)
plus p q = record { value = ap₂ ◌+◌ p.value q.value; small = omega (arith, p.small, q.small) }

pub times : {x y m n a b : ℕ} → Is x m a → Is y n b → Is (x * y) (m * n) (a * b)
times p q = record { value = ap₂ ◌*◌ p.value q.value; small = mul-le-mul p.small q.small }

hundredth : {x a : ℕ} (most : ℕ) → Is x (100 * most) a → Is (x / 100) most (a / 100)
hundredth most p = record { value = ap (λ (n : ℕ). n / 100) p.value; small = omega (arith, p.small) }

half_hundredth : {x a : ℕ} (most : ℕ) → Is x (200 * most) a → Is (x / 200) most (a / 200)
half_hundredth most p = record { value = ap (λ (n : ℕ). n / 200) p.value; small = omega (arith, p.small) }

-- what shares leave of a hundred
pub left : {x a : ℕ} → Is x most_share a → Is (100 - x) 100 (100 - a)
left p = record { value = ap (λ (n : ℕ). 100 - n) p.value; small = omega arith }

pub left_of_two : {x y a b : ℕ} → Is x most_share a → Is y most_share b → Is (100 - x - y) 100 (100 - a - b)
left_of_two p q = record { value = ap₂ (λ (m n : ℕ). 100 - m - n) p.value q.value; small = omega arith }

module _ (f : List ℕ) (age : ℕ) where
  pub food_is : (food : ℕ) {lead grams : ℕ} → Is (lead_of f food) most_lead lead → Is (grams_at f age food) most_grams grams
      → Is (food_lead f age food) most_of_food (lead * grams)
  unfolding food_lead
  food_is food lead grams = times lead grams

  pub meat_is : {fishes games bought : ℕ} → Is (share_of f fish) most_share fishes → Is (share_of f game) most_share games → Is (food_lead f age meat) most_of_food bought
      → Is (in_meat f age) most_of_food ((100 - fishes - games) * bought / 100)
  unfolding in_meat
  meat_is fishes games bought = hundredth most_of_food (times (left_of_two fishes games) bought)

  pub half_is : (food local : ℕ) {share bought : ℕ} → Is (share_of f local) most_share share → Is (food_lead f age food) most_of_food bought
      → Is (half_bought f age food local) (most_of_food / 2) ((100 - share) * bought / 200)
  unfolding half_bought
  half_is food local share bought = half_hundredth (most_of_food / 2) (times (left share) bought)

  pub home_is : (canned fresh local : ℕ) {share some more lead : ℕ} → Is (share_of f local) most_share share → Is (grams_at f age canned) most_grams some
      → Is (grams_at f age fresh) most_grams more → Is (local_lead_of f local) most_lead lead
      → Is (home_grown f age canned fresh local) (2 * most_of_food) (share * (some + more) * lead / 100)
  unfolding home_grown
  home_is canned fresh local share some more lead = hundredth (2 * most_of_food) (times (times share (plus some more)) lead)

  pub caught_is : (local : ℕ) {share grams lead : ℕ} → Is (share_of f local) most_share share → Is (grams_at f age meat) most_grams grams → Is (local_lead_of f local) most_lead lead
      → Is (caught f age local) most_of_food (share * grams * lead / 100)
  unfolding caught
  caught_is local share grams lead = hundredth most_of_food (times (times share grams) lead)

  -- the foods that count whole, as a loop adds them up
  unfoldable pub whole_at : ℕ → ℕ
  whole_at i = food_lead f age (get_or whole_foods i 0)

  pub whole_sum : sum_to whole_count whole_at ≡ in_whole_foods f age
  unfolding sum_to whole_at in_whole_foods
  whole_sum = omega arith

-- the code's list of them has their places
abbrev pub its_foods : List Food
its_foods = Dairy ∷ Juices ∷ Nuts ∷ Bread ∷ Pasta ∷ Beverage ∷ Candy ∷ Sauce ∷ Formula ∷ Infant ∷ []

pub whole_place : (i : ℕ) (d : Food) → i < whole_count → place_of (get_or its_foods i d) ≡ get_or whole_foods i 0
whole_place i d h = sym (get_or-map place_of its_foods i d 0 h)

-- each of them is a food
pub whole_below : (i : ℕ) → i < whole_count → get_or whole_foods i 0 < food_count
unfolding every
whole_below i h =
    ltb-true (get_or whole_foods i 0) food_count (every-at (λ (k : ℕ). ltb (get_or whole_foods k 0) food_count) 0 whole_count tested i (omega arith) (omega arith))
  where
    tested : every (λ (k : ℕ). ltb (get_or whole_foods k 0) food_count) 0 whole_count ≡ true
    tested = refl
