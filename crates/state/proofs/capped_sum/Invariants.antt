-- `state::capped_sum` meets its contract: the capped sum so far is that of the amounts passed.
use Rattle.std.proofs.Common.{◌≡◌, min, get_or}
use Rattle.numbers.specs.Sums.{sum_to}
use Rattle.state.specs.Internal.{cap}
use Rattle.state.proofs.capped_sum.Given as goal

abbrev pub invariant-loop-amount : goal.invariant-loop-amount
invariant-loop-amount l = l.sum ≡ min (sum_to l.amount-index (λ i. get_or l.amounts i 0)) cap
