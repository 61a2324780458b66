-- The bytes put so far are blanks.
use Rattle.std.proofs.Common.{◌≡◌, ◌++◌, replicate}
use Rattle.text.specs.Characters.{space}
use Rattle.leaflet.proofs.page.put_blanks.Given as goal

abbrev pub invariant-loop : goal.invariant-loop
invariant-loop l = l.line ≡ l.initial.line ++ replicate l.counter space
