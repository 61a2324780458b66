-- `diet::diets_of` meets its contract: the diets stored so far are the first of `diets_of`.
use Rattle.std.proofs.Common.{refl}
use Rattle.numbers.proofs.Loops.{filled_none, filled_next, filled_all}
use Rattle.diet.specs.Diet.{diets_of}
use Rattle.diet.proofs.diets_of.Goals as goal

pub loop-age-init : goal.loop-age-init
loop-age-init c = filled_none _ _ refl

pub loop-age-preserved : goal.loop-age-preserved
loop-age-preserved c = filled_next c.loop-age.invariant c.loop-age-test.true c.diet.ensures.value

pub returns : goal.returns
unfolding diets_of
returns c = filled_all c.loop-age.invariant c.loop-age-test.false
