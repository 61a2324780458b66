-- `diet::eaten::Eaten::in_whole_foods` meets its contract: the sum so far is over the foods passed.
use Rattle.numbers.proofs.Loops.{Summed}
use Rattle.diet.specs.Diet.{whole_count, most_of_food}
use Rattle.diet.proofs.TermBounds.{whole_at}
use Rattle.diet.proofs.eaten.Eaten.in_whole_foods.Given as goal

abbrev pub invariant-loop-food : goal.invariant-loop-food
invariant-loop-food l = Summed (whole_at l.self.figures.now.figures l.self.age) whole_count most_of_food 0 l.sum l.food-index
