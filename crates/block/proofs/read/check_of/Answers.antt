-- `block::read::check_of` meets its contract: its terms are the words, each times its position, and their sum fits.
use Rattle.std.proofs.Common.{rules}
use borrow.Author.Tests.{tests}
use Rattle.numbers.proofs.RangeSums.{range_sum, range_fits}
use Rattle.block.specs.Block.{check_of, checked_words}
use Rattle.block.proofs.BlockRefusals.{weighed, check_lt}
use Rattle.block.proofs.read.check_of.Goals as goal

pub sum-requires-clause-fits : goal.sum-requires-clause-fits
unfolding check_of
sum-requires-clause-fits c =
    range_fits _ (weighed c.args.s.now) checked_words c.map.ensures.source c.map.ensures.closure (λ x r q k. search (rules, tests)) _
    (check_lt c.args.s.now (λ i. (c.type_inv.s i).fits))

pub returns : goal.returns
unfolding check_of
returns c =
    range_sum _ (weighed c.args.s.now) checked_words c.map.ensures.source c.map.ensures.closure (λ x r q k. search (rules, tests)) _
    c.sum.ensures.ran
