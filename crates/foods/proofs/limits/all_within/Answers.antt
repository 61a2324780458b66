-- `foods::limits::all_within` meets its contract: a part of the figures is tested as the definition does.
use Rattle.std.proofs.Common.{◌∙◌, ◌-◌, arith}
use Rattle.foods.proofs.FigureTests.{part_within}
use Rattle.foods.proofs.limits.all_within.Goals as goal

pub returns : goal.returns
returns c =
    let a = c.args in
    c.none_above.ensures ∙ part_within a.limit a.figures.now a.from (a.to - a.from) (omega (arith, c.requires.0, c.requires.1, c.told-figures))
