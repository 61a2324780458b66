-- The places of the foods and of the local foods.
-- Assumes nothing.
use Rattle.std.specs.Prelude.{ℕ}
use Rattle.foods.specs.declared.places.Food.{Food}
use Rattle.foods.specs.declared.places.Food.TheVariants.{Beverage, Bread, CanFruit, CanVeg, Candy, Dairy, FreshFruit, FreshVeg, Formula, Infant, Juices, Meat, Nuts, Pasta, Sauce}
use Rattle.foods.specs.declared.places.LocalFood.{LocalFood}
use Rattle.foods.specs.declared.places.LocalFood.TheVariants.{Vegetable, Fruit, Fish, Game}
use Rattle.foods.specs.Names.{beverage, bread, can_fruit, can_veg, candy, dairy, fresh_fruit, fresh_veg, formula, infant, juices, meat, nuts, pasta, sauce, vegetable, fruit, fish, game}

abbrev pub place_of : Food → ℕ
place_of Beverage = beverage
place_of Bread = bread
place_of CanFruit = can_fruit
place_of CanVeg = can_veg
place_of Candy = candy
place_of Dairy = dairy
place_of FreshFruit = fresh_fruit
place_of FreshVeg = fresh_veg
place_of Formula = formula
place_of Infant = infant
place_of Juices = juices
place_of Meat = meat
place_of Nuts = nuts
place_of Pasta = pasta
place_of Sauce = sauce

abbrev pub local_place : LocalFood → ℕ
local_place Vegetable = vegetable
local_place Fruit = fruit
local_place Fish = fish
local_place Game = game
