-- `diet::eaten::Eaten::in_whole_foods` meets its contract: the sum so far is over the foods passed.
use Rattle.std.proofs.Common.{arith, ap, ◌∙◌}
use Rattle.numbers.proofs.Loops.{summed_none, summed_next, summed_all}
use Rattle.diet.specs.Diet.{food_lead}
use Rattle.diet.proofs.TermBounds.{whole_at, whole_sum, whole_place}
use Rattle.diet.proofs.eaten.Eaten.in_whole_foods.Goals as goal

pub loop-food-init : goal.loop-food-init
loop-food-init c = summed_none _ _ _ _

pub loop-food-preserved : goal.loop-food-preserved
unfolding whole_at
loop-food-preserved c =
    let foods = c.args.self.now.figures.now.figures in
    let same = whole_place c.loop-food.food-index _ c.loop-food-test.true in
    summed_next c.loop-food.invariant c.loop-food-test.true (c.food_lead-lead.ensures.value ∙ ap (food_lead foods c.args.self.now.age) same) c.food_lead-lead.ensures.small

pub returns : goal.returns
returns c =
    let l = c.loop-food in
    let self = c.args.self.now in
    record {
      value = omega (arith, summed_all l.invariant c.loop-food-test.false, whole_sum self.figures.now.figures self.age);
      small = omega (arith, l.invariant.small, l.invariant.reach);
    }
