-- The bytes copied so far stand in front of what was there.
use Rattle.std.proofs.Common.{◌≡◌, ◌≤◌, ◌++◌, length, take, drop}
use Rattle.block.proofs.write.copy.Given as goal

abbrev pub invariant-loop-at : goal.invariant-loop-at
invariant-loop-at l = (l.at ≤ length l.source) × (l.target ≡ take l.at l.source ++ drop l.at l.initial.target)
