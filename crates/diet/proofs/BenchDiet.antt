-- The worked diet, by computing the definitions.
-- Assumes nothing.
use mathlib.Core.Path.{refl}
use Rattle.numbers.specs.Choice.{every}
use Rattle.numbers.specs.Sums.{sum_to}
use Rattle.block.specs.Block.{word_at, check_of}
use Rattle.block.specs.Writer.{le16, le32, laid_by, body_with}
use Rattle.foods.specs.Figures.{shares_fit, all_within, amounts_fit}
use Rattle.foods.specs.Laws.{foods_body}
use Rattle.diet.specs.Diet.{food_lead, in_meat, half_bought, home_grown, caught, in_whole_foods, diet_at}
use Rattle.diet.specs.Bench.{worked_foods, WorkedDiet}

pub worked_diet : WorkedDiet
unfolding worked_foods every shares_fit all_within amounts_fit sum_to word_at check_of le16 le32 laid_by body_with foods_body
    food_lead in_meat half_bought home_grown caught in_whole_foods diet_at
worked_diet =
    record {
      shares = refl;
      amounts = refl;
      meat = refl;
      can_veg_lem = refl;
      fresh_veg_lem = refl;
      can_fruit_lem = refl;
      fresh_fruit_lem = refl;
      home_fruit = refl;
      home_veg = refl;
      from_fish = refl;
      from_game = refl;
      whole = refl;
      diet = refl;
      next_age = refl;
      check = refl;
      blank_check = refl;
    }
