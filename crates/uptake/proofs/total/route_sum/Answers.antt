-- `uptake::total::route_sum` meets its contract: the sum of five parts.
use mathlib.Core.Path.{◌≡◌, ◌∙◌}
use Prim.Native.Nat.{◌≤◌}
use borrow.Author.Rules.{rules}
use lib.ListN.{length}
use Rattle.std.specs.List.{sum}
use Rattle.uptake.specs.Routes.{route_sum}
use Rattle.uptake.specs.Laws.{routes_limit}
use Rattle.uptake.proofs.RouteSums.{sum_most}
use Rattle.uptake.proofs.ListSums.{sum_parts}
use Rattle.uptake.proofs.total.route_sum.Goals as goal

pub sum-requires-clause-fits : goal.sum-requires-clause-fits
sum-requires-clause-fits c =
    let parts = c.args.parts.now in
    let long : length parts ≡ 5 = search rules in
    let small : sum parts ≤ routes_limit = rw (sum_parts parts long) (sum_most parts c.requires) in
    search rules

pub returns : goal.returns
returns c =
    let parts = c.args.parts.now in
    let long : length parts ≡ 5 = search rules in
    let value : c.sum.result ≡ sum parts = search rules in
    let is : c.sum.result ≡ route_sum parts = value ∙ sum_parts parts long in
    record { value = is; small = rw is (sum_most parts c.requires) }
