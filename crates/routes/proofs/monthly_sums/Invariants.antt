-- `routes::monthly_sums` meets its contract: zeros if the files are refused, else the sums of month after month.
use Rattle.routes.proofs.MonthSums.{SumsStored}
use Rattle.routes.proofs.monthly_sums.Given as goal

abbrev pub invariant-loop-done : goal.invariant-loop-done
invariant-loop-done l = SumsStored l.accepted.scenario.now l.accepted.table.now l.sum-items l.done
