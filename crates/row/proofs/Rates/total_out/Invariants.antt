-- `row::Rates::total_out` meets its contract: the rates added so far, or the most that 64 bits hold.
use Rattle.std.proofs.Common.{◌≡◌, ◌+◌, ◌-◌, ◌^◌, min}
use Rattle.numbers.specs.Sums.{sum_to}
use Rattle.row.specs.Row.{out}
use Rattle.row.proofs.Rates.total_out.Given as goal

abbrev pub invariant-loop-rate : goal.invariant-loop-rate
invariant-loop-rate l = l.total ≡ min (sum_to l.rate-index (out l.self) + l.self.urine) (2 ^ 64 - 1)
