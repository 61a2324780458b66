-- The bytes put so far are the first of the text.
use Rattle.std.proofs.Common.{◌+◌, take}
use Rattle.text.specs.Internal.{Put}
use Rattle.text.proofs.put_text.Given as goal

abbrev pub invariant-loop-at : goal.invariant-loop-at
invariant-loop-at l = Put l.initial.target l.place (take l.at l.text) l.at l.target (l.place + l.at)
