-- `foods::read_foods` meets its contract: the figures of an accepted block are within their limits.
use Rattle.std.proofs.Common.{refl}
use Rattle.foods.proofs.FiguresWithin.{read_within}
use Rattle.foods.proofs.read_foods.Goals as goal

pub invariant_of-result : goal.invariant_of-result
invariant_of-result c = record { within = read_within c.args.block.now c.in_ok-decode.ensures.number c.in_ok-decode.ensures.figures_after refl }
