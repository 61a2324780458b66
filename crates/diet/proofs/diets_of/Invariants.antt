-- `diet::diets_of` meets its contract: the diets stored so far are the first of `diets_of`.
use Rattle.numbers.proofs.Loops.{Filled}
use Rattle.site.specs.Fields.{ages}
use Rattle.diet.specs.Diet.{diet_at}
use Rattle.diet.proofs.diets_of.Given as goal

abbrev pub invariant-loop-age : goal.invariant-loop-age
invariant-loop-age l = Filled (diet_at l.figures.figures) ages l.diet-items l.age
