-- `kinetics::step::Step::inflow` meets its contract: the six returns are summed, and added to what there is.
use Rattle.std.proofs.Common.{◌≡◌, ◌^◌, arith, rules}
use Rattle.numbers.specs.Sums.{sum_to}
use Rattle.numbers.proofs.Bounds.{is}
use Rattle.numbers.proofs.RangeSums.{range_sum, range_fits}
use Rattle.kinetics.specs.Step.{returned, inflow}
use Rattle.kinetics.proofs.Bounds.{inflow_small}
use Rattle.kinetics.proofs.step.Step.inflow.Goals as goal
use Rattle.kinetics.proofs.step.Step.inflow.Goals.{After-sum-returned}

returned_is : (c : After-sum-returned) → (let s = c.args.self.now in c.sum-returned.result ≡ sum_to 6 (returned s.month.now.rates s.state.now.lead))
returned_is c =
    let s = c.args.self.now in
    range_sum _ (returned s.month.now.rates s.state.now.lead) 6 c.map.ensures.source c.map.ensures.closure (λ x r q k. search rules) _ c.sum-returned.ensures.ran

pub sum-returned-requires-clause-fits : goal.sum-returned-requires-clause-fits
unfolding inflow
sum-returned-requires-clause-fits c =
    let s = c.args.self.now in
    range_fits _ (returned s.month.now.rates s.state.now.lead) 6 c.map.ensures.source c.map.ensures.closure (λ x r q k. search rules) (2 ^ 64)
    (omega (arith, inflow_small s.ready))

pub overflow_add-result-2 : goal.overflow_add-result-2
unfolding inflow
overflow_add-result-2 c = omega (arith, returned_is (goal.at.overflow_add-result-2 c).After-sum-returned, inflow_small c.args.self.now.ready)

pub returns : goal.returns
unfolding inflow
returns c = is (omega (arith, returned_is (goal.at.returns c).After-sum-returned)) (inflow_small c.args.self.now.ready)
