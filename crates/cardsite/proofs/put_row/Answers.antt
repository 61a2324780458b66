-- `cardsite::put_row` meets its contract: a card's figures are within their limits.
use mathlib.Core.Path.{ap, ◌∙◌}
use native.Mathlib.Omega.{arith}
use Rattle.site.specs.Fields.{dust_group}
use Rattle.cardsite.specs.Over.{over_ages}
use Rattle.cardsite.proofs.Limited.{within}
use Rattle.cardsite.proofs.put_row.Goals as goal

pub put_given-requires-2 : goal.put_given-requires-2
put_given-requires-2 c = (omega arith, omega arith, ap (over_ages dust_group) c.dust_or_soil.ensures ∙ (within _ c.requires).dust)

pub put_given-requires-3 : goal.put_given-requires-3
put_given-requires-3 c = (omega arith, omega arith, (within _ c.requires).air)

pub put_given-requires-4 : goal.put_given-requires-4
put_given-requires-4 c = (omega arith, omega arith, (within _ c.requires).other)

pub put_given-requires-5 : goal.put_given-requires-5
put_given-requires-5 c = (omega arith, omega arith, (within _ c.requires).water)

pub put_given-requires-6 : goal.put_given-requires-6
put_given-requires-6 c = (omega arith, omega arith, (within _ c.requires).abssoil)

pub put_given-requires-7 : goal.put_given-requires-7
put_given-requires-7 c = (omega arith, omega arith, (within _ c.requires).absdust)
