-- `row::Rates::total_out` meets its contract: the rates added so far, or the most that 64 bits hold.
use Rattle.std.proofs.Common.{arith}
use Rattle.numbers.specs.Sums.{sum_to}
use Rattle.numbers.proofs.Sums.{sum-next}
use Rattle.row.specs.Row.{out}
use Rattle.row.proofs.Rates.total_out.Goals as goal

pub loop-rate-init : goal.loop-rate-init
unfolding sum_to
loop-rate-init c = omega arith

pub loop-rate-preserved : goal.loop-rate-preserved
loop-rate-preserved c = omega (arith, sum-next c.loop-rate.rate-index (out c.args.self.now))
