-- The words of a roll: what becomes of up to 64 rows, nine words for each.
-- Assumes nothing.
use Rattle.std.specs.Prelude.{ℕ, zero, suc, ◌*◌, cond, List, [], ◌∷◌, ◌++◌, eqb, Option, None, Some}
use Rattle.numbers.specs.Parts.{part_at}
use Rattle.site.specs.Fields.{at}
use Rattle.card.specs.declared.Card.{Card}
use Rattle.card.specs.RowRead as read
use Rattle.card.specs.Values.{months_of}
use Rattle.cardsite.specs.Start.{Start, Runs, Skipped, Refused, start_of}

-- the rows of a group, the words of a row and of a roll
abbrev pub rows_a_group : ℕ
rows_a_group = 64

abbrev pub words_a_row : ℕ
words_a_row = 9

abbrev pub roll_words : ℕ
roll_words = words_a_row * rows_a_group

-- a gap as a word: no figure within its limit is so great
abbrev pub gap_word : ℕ
gap_word = 4_294_967_295

abbrev pub word_of : Option ℕ → ℕ
word_of None = gap_word
word_of (Some n) = n

abbrev pub value_in : ℕ → Option ℕ
value_in w = cond (eqb w gap_word) None (Some w)

-- a row that runs: 0, its AGE, and its seven figures
unfoldable pub card_words : Card → List ℕ
card_words c =
    0
    ∷ months_of c.age
    ∷ word_of c.soil
    ∷ word_of c.dust
    ∷ word_of c.water
    ∷ word_of c.air
    ∷ word_of c.other
    ∷ word_of c.abssoil
    ∷ word_of c.absdust
    ∷ []

-- the words of a row: a skipped one has 1, a refused one 2 and its number
abbrev pub start_words : Start → List ℕ
start_words (Runs c) = card_words c
start_words Skipped = 1 ∷ 0 ∷ 0 ∷ 0 ∷ 0 ∷ 0 ∷ 0 ∷ 0 ∷ 0 ∷ []
start_words (Refused n) = 2 ∷ n ∷ 0 ∷ 0 ∷ 0 ∷ 0 ∷ 0 ∷ 0 ∷ 0 ∷ []

-- the card that nine words are
unfoldable pub card_in : List ℕ → Card
card_in words =
    record {
      age = Some (at words 1);
      soil = value_in (at words 2);
      dust = value_in (at words 3);
      water = value_in (at words 4);
      air = value_in (at words 5);
      other = value_in (at words 6);
      abssoil = value_in (at words 7);
      absdust = value_in (at words 8);
    }

-- what nine words say becomes of their row; words that no row gave are checked as a card is
unfoldable pub start_in : List ℕ → Start
start_in words = cond (eqb (at words 0) 0) (start_of (read.Accepted (card_in words))) (cond (eqb (at words 0) 1) Skipped (Refused (at words 1)))

-- what becomes of row i of a roll, and of its first n rows
abbrev pub start_at : List ℕ → ℕ → Start
start_at roll i = start_in (part_at words_a_row roll i)

unfoldable pub starts_in : ℕ → List ℕ → List Start
starts_in zero roll = []
starts_in (suc n) roll = starts_in n roll ++ (start_at roll n ∷ [])
