-- A row's card, or the number that refuses it.
-- Assumes nothing.
use Rattle.std.specs.Prelude.{ℕ, Result, Ok, Err}
use Rattle.refusal.specs.declared.Refusal.{Refusal}
use Rattle.refusal.specs.Refusal.{number_of}
use Rattle.card.specs.declared.Card.{Card}

pub data RowRead : Type 0 where
  Accepted : (c : Card) → RowRead
  Refused : (n : ℕ) → RowRead

-- by what the code answers
abbrev pub read_of : Result Card Refusal → RowRead
read_of (Ok c) = Accepted c
read_of (Err refusal) = Refused (number_of refusal)
