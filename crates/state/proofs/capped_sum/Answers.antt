-- `state::capped_sum` meets its contract: the capped sum so far is that of the amounts passed.
use Rattle.std.proofs.Common.{arith, get_or}
use Rattle.numbers.specs.Sums.{sum_to}
use Rattle.numbers.proofs.Sums.{sum-next}
use Rattle.state.proofs.capped_sum.Goals as goal

pub loop-amount-init : goal.loop-amount-init
unfolding sum_to
loop-amount-init c = omega arith

pub loop-amount-preserved : goal.loop-amount-preserved
loop-amount-preserved c = omega (arith, sum-next c.loop-amount.amount-index (λ i. get_or c.args.amounts.now i 0))
