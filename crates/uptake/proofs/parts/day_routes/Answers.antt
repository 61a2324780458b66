-- `uptake::parts::day_routes` meets its contract: each list has its part of each medium.
use Rattle.std.proofs.Common.{◌≡◌, rules}
use Rattle.numbers.specs.Choice.{tab}
use Rattle.numbers.proofs.ByIndex.{from_fn_is}
use Rattle.uptake.specs.Uptake.{passive_uptake}
use Rattle.uptake.specs.Internal.{active_by}
use Rattle.uptake.proofs.PassedIntakes.{passed_air}
use Rattle.uptake.proofs.DayRoutes.{routes_are}
use Rattle.uptake.proofs.RouteSums.{routes_limits}
use Rattle.uptake.proofs.parts.day_routes.Goals as goal

pub percent_of-air-requires : goal.percent_of-air-requires
percent_of-air-requires c =
    let passed = c.args.passed.now in
    (passed.exposure.now.within.absorption, passed_air passed)

pub returns-clause-value : goal.returns-clause-value
returns-clause-value c =
    let passed = c.args.passed.now in
    let weights = c.args.weights in
    let e = passed.exposure.now.exposure in
    let sat = c.saturation_of-saturation.result in
    let passive : c.from_fn-passive.result ≡ tab 5 (passive_uptake e) = from_fn_is _ _ 5 _ (λ i y q l k. search rules) c.from_fn-passive.ensures.items in
    let active : c.from_fn-active.result ≡ tab 5 (active_by e sat) = from_fn_is _ _ 5 _ (λ i y q l k. search rules) c.from_fn-active.ensures.items in
    routes_are passed weights.month weights.month24 c.saturation_of-saturation.ensures.value.value passive active c.percent_of-air.ensures.value

pub returns-clause-limits : goal.returns-clause-limits
returns-clause-limits c =
    let passed = c.args.passed.now in
    let weights = c.args.weights in
    rw (returns-clause-value c) (routes_limits passed.exposure.now.exposure weights.month weights.month24 passed.exposure.now.within passed.passed)
