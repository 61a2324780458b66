-- `uptake::day::day_uptake` meets its contract: T is all of the day's routes together.
use mathlib.Core.Path.{ap, ◌∙◌}
use Rattle.numbers.proofs.Bounds.{is}
use Rattle.uptake.specs.Routes.{routes_total}
use Rattle.uptake.proofs.RouteSums.{routes_law}
use Rattle.uptake.proofs.UptakeBounds.{day_law}
use Rattle.uptake.proofs.day.day_uptake.Goals as goal

pub returns : goal.returns
returns c =
    let passed = c.args.passed.now in
    let weights = c.args.weights in
    let exposure = passed.exposure.now.exposure in
    is
    (c.total.ensures.value ∙ ap routes_total c.day_routes.ensures.value ∙ routes_law exposure weights.month weights.month24)
    (day_law exposure weights.month weights.month24 passed.exposure.now.within passed.passed)
