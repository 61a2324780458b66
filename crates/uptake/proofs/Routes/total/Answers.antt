-- `uptake::Routes::total` meets its contract: both sums and the air's uptake, within the limit of T.
use native.Mathlib.Omega.{arith}
use Rattle.numbers.proofs.Bounds.{is}
use Rattle.uptake.specs.Routes.{routes_total}
use Rattle.uptake.proofs.RouteSums.{total_most}
use Rattle.uptake.proofs.Routes.total.Goals as goal

pub returns : goal.returns
unfolding routes_total
returns c = is (omega (arith, c.route_sum.ensures.value, c.route_sum-2.ensures.value)) (total_most c.requires)
