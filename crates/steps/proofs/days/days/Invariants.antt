-- `steps::days::days` meets its contract: at day d the days from d on are left.
use Prim.Native.Nat.{◌-◌}
use Rattle.steps.specs.Steps.{days_a_month, days_shares}
use Rattle.steps.proofs.Loops.{Ahead}
use Rattle.steps.proofs.days.days.Given as goal

abbrev pub invariant-loop : goal.invariant-loop
invariant-loop l = Ahead (λ b. l.rates.rates) l.initial.here (days_shares l.s l.t days_a_month) l.here (days_shares l.s l.t (days_a_month - l.counter))
