-- `routes::monthly_sums` meets its contract: a month more is stored.
use Rattle.std.proofs.Common.{arith}
use Rattle.routes.proofs.MonthSums.{stored_next}
use Rattle.routes.proofs.monthly_sums.Goals as goal

pub loop-done-preserved : goal.loop-done-preserved
loop-done-preserved c = stored_next c.loop-done.invariant (omega arith) c.sums_in.ensures
