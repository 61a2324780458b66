-- The roll that has no row.
-- Assumes nothing.
use Rattle.std.specs.Prelude.{replicate}
use Rattle.roll.specs.declared.Roll.{Roll}
use Rattle.roll.specs.Words.{roll_words}

abbrev pub blank : Roll
blank = record { words = replicate roll_words 0; count = 0 }
