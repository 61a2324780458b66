-- `steps::days::day` meets its contract: at step k the shares from k on are left.
use Rattle.std.proofs.Common.{arith}
use Rattle.steps.proofs.Loops.{day_sum_fits, day_refused, day_ready, day_next, day_end}
use Rattle.steps.proofs.days.day.Goals as goal

pub overflow_add-held : goal.overflow_add-held
overflow_add-held c =
    omega (arith, day_sum_fits c.requires c.loop-k.k c.loop-k.invariant c.loop-k-test.true c.burden-held.ensures c.share-u.ensures)

pub returns-then-held-u-gt-BURDEN_MOST : goal.returns-then-held-u-gt-BURDEN_MOST
returns-then-held-u-gt-BURDEN_MOST c =
    day_refused c.requires c.loop-k.k c.loop-k.invariant c.loop-k-test.true c.burden-held.ensures c.share-u.ensures c.if-held-u-gt-BURDEN_MOST.true

pub step-here-requires : goal.step-here-requires
step-here-requires c =
    day_ready c.requires c.loop-k.k c.loop-k.invariant c.loop-k-test.true c.burden-held.ensures c.share-u.ensures
    c.args.rates.now.of_rates (omega arith) c.if-held-u-gt-BURDEN_MOST.false

pub loop-k-preserved : goal.loop-k-preserved
loop-k-preserved c =
    day_next c.requires c.loop-k.k c.loop-k.invariant c.loop-k-test.true c.burden-held.ensures c.share-u.ensures
    c.if-held-u-gt-BURDEN_MOST.false _ c.step-here.ensures

pub returns : goal.returns
returns c = day_end c.requires c.loop-k.k c.loop-k.invariant c.loop-k-test.false
