-- `kinetics::divisor::MonthRates::new` meets its contract: the list has each divisor, and what is retained is summed.
use Rattle.std.proofs.Common.{◌≡◌, ◌^◌, arith, rules}
use Rattle.numbers.specs.Choice.{tab}
use Rattle.numbers.specs.Sums.{sum_to}
use Rattle.numbers.proofs.ByIndex.{from_fn_is}
use Rattle.numbers.proofs.Every.{get_or-tab}
use Rattle.numbers.proofs.RangeSums.{range_sum, range_fits}
use Rattle.kinetics.specs.Step.{compartment_divisor, retained, divisor}
use Rattle.kinetics.proofs.Bounds.{retained-sum_most}
use Rattle.kinetics.proofs.divisor.MonthRates.new.Goals as goal
use Rattle.kinetics.proofs.divisor.MonthRates.new.Goals.{After-sum-kept}

kept_is : (c : After-sum-kept) → c.sum-kept.result ≡ sum_to 6 (retained c.args.rates)
kept_is c = range_sum _ (retained c.args.rates) 6 c.map.ensures.source c.map.ensures.closure (λ x r q k. search rules) _ c.sum-kept.ensures.ran

pub sum-kept-requires-clause-fits : goal.sum-kept-requires-clause-fits
sum-kept-requires-clause-fits c =
    range_fits _ (retained c.args.rates) 6 c.map.ensures.source c.map.ensures.closure (λ x r q k. search rules) (2 ^ 64)
    (omega (arith, retained-sum_most c.requires))

pub overflow_add-plasma-2 : goal.overflow_add-plasma-2
overflow_add-plasma-2 c = omega (arith, kept_is (goal.at.overflow_add-plasma-2 c).After-sum-kept, retained-sum_most c.requires)

pub invariant_of-result : goal.invariant_of-result
unfolding divisor
invariant_of-result c =
    let r = c.args.rates in
    let each : c.from_fn-compartments.result ≡ tab 6 (compartment_divisor r) = from_fn_is _ _ 6 _ (λ i y q l k. search rules) c.from_fn-compartments.ensures.items in
    record {
      limits = c.requires;
      of_rates = record {
        compartments = λ i l. rw each (get_or-tab 6 (compartment_divisor r) i l);
        plasma = omega (arith, kept_is (goal.at.invariant_of-result c).After-sum-kept);
      };
    }
