-- What the first word of a row says.
-- Assumes nothing.
use Rattle.std.specs.Prelude.{ℕ, cond, eqb}
use Rattle.roll.specs.declared.words.Kind.{Kind}
use Rattle.roll.specs.declared.words.Kind.TheVariants.{Runs, Skipped, Refused}

-- a word that no row gave counts as a refused row's
abbrev pub kind_in : ℕ → Kind
kind_in word = cond (eqb word 0) Runs (cond (eqb word 1) Skipped Refused)
