-- `steps::days::day` meets its contract: at step k the shares from k on are left.
use Prim.Native.Nat.{◌-◌}
use Rattle.steps.specs.Steps.{shares_from, day_shares}
use Rattle.steps.proofs.Loops.{Ahead}
use Rattle.steps.proofs.days.day.Given as goal

abbrev pub invariant-loop-k : goal.invariant-loop-k
invariant-loop-k l = Ahead (λ b. l.rates.rates) l.initial.here (day_shares l.s l.t) l.here (shares_from l.s l.t l.k (l.s - l.k))
