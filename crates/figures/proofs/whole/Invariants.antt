-- `figures::whole` meets its contract.
use Prim.Native.Nat.{◌≤◌}
use lib.ListN.{length}
use Rattle.figures.proofs.Figures.{InWhole}
use Rattle.figures.proofs.whole.Given as goal

abbrev pub invariant-loop-digit : goal.invariant-loop-digit
invariant-loop-digit l = InWhole l.digits l.n l.digit-index × (length l.digits ≤ 8)
