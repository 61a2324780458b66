-- For the contracts between the functions: what fits a word, and what putting a text's rows on the roll leaves. No open call's contract needs it.
-- Assumes nothing.
use Rattle.std.specs.Prelude.{◌≡◌, List, map, ℕ, ◌≤◌, length}
use Rattle.lines.specs.Text.{line_start}
use Rattle.card.specs.declared.Card.{Card}
use Rattle.card.specs.Row.{read_row}
use Rattle.card.specs.Values.{months_of}
use Rattle.cardsite.specs.Start.{start_of}
use Rattle.roll.specs.RowsTaken.{RowsTaken}
use Rattle.roll.specs.Words.{rows_a_group, gap_word, word_of, starts_in}
use Rattle.roll.specs.Enrol.{group_of}

-- the figures of a card fit their words
pub record FitsWords (c : Card) : Type 0 where
  pub age : months_of c.age ≤ gap_word
  pub soil : word_of c.soil ≤ gap_word
  pub dust : word_of c.dust ≤ gap_word
  pub water : word_of c.water ≤ gap_word
  pub air : word_of c.air ≤ gap_word
  pub other : word_of c.other ≤ gap_word
  pub abssoil : word_of c.abssoil ≤ gap_word
  pub absdust : word_of c.absdust ≤ gap_word

-- the first rows of a text are on the roll, in its order; the words behind them are free
pub record TextEnrolled (text roll : List ℕ) (r : RowsTaken) : Type 0 where
  pub count : r.count ≡ length (group_of text)
  pub next : r.next ≡ line_start rows_a_group text
  pub rows : starts_in r.count roll ≡ map (λ (row : List ℕ). start_of (read_row row)) (group_of text)
