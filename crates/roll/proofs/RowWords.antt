-- The words of a row: a card that runs fits them, and they say what becomes of it.
-- Assumes nothing.
use Prim.Native.Nat.{ℕ, ◌≤◌, ◌<◌}
use mathlib.Core.Path.{◌≡◌, refl, sym, ap, ◌∙◌}
use mathlib.Core.Bool.{false}
use native.Mathlib.Omega.{arith}
use borrow.Author.Tests.{ne_eqb, ltb-false}
use lib.ListN.{length}
use Rattle.site.specs.Fields.{field_count, at, limits}
use Rattle.site.proofs.FieldTests.{limit_small}
use Rattle.std.specs.Prelude.{Option, None, Some}
use Rattle.card.specs.declared.Card.{Card}
use Rattle.card.specs.RowRead.{RowRead}
use Rattle.card.specs.RowRead as read
use Rattle.card.specs.Row.{read_kept}
use Rattle.card.specs.Values.{months_of}
use Rattle.cardsite.specs.Start.{Start, Runs, Skipped, Refused, start_of}
use Rattle.cardsite.specs.Over.{over}
use Rattle.cardsite.specs.Running.{Running}
use Rattle.cardsite.proofs.Limited.{own_within}
use Rattle.cardsite.proofs.Starts.{runs_within}
use Rattle.roll.specs.Words.{words_a_row, gap_word, word_of, value_in, card_words, start_words, card_in, start_in}
use Rattle.roll.specs.Internal.{FitsWords}
use Rattle.roll.specs.Laws.{WordsLaw}

-- a word is a gap or a figure
pub value_figure : (w : ℕ) → (w ≡ gap_word → ⊥) → Some w ≡ value_in w
value_figure w n = rw (ne_eqb w gap_word n)

-- a value that is not over its limit, as a word
module _ (place : ℕ) (h : place < field_count) where
  value_fits : (v : Option ℕ) → over (at limits place) v ≡ false → word_of v ≤ gap_word
  value_fits None e = omega arith
  value_fits (Some n) e = omega (arith, limit_small place h, ltb-false (at limits place) n e)

  value_back : (v : Option ℕ) → over (at limits place) v ≡ false → value_in (word_of v) ≡ v
  value_back None e = refl
  value_back (Some n) e = sym (value_figure n (λ z. absurd (omega (arith, limit_small place h, ltb-false (at limits place) n e))))

-- a card that runs fits its words
pub running_fits : (c : Card) → Running c → FitsWords c
running_fits c run =
    let own = own_within c run.within in
    record {
      age = omega (arith, run.last);
      soil = value_fits _ (omega arith) c.soil own.soil;
      dust = value_fits _ (omega arith) c.dust own.dust;
      water = value_fits _ (omega arith) c.water own.water;
      air = value_fits _ (omega arith) c.air own.air;
      other = value_fits _ (omega arith) c.other own.other;
      abssoil = value_fits _ (omega arith) c.abssoil own.abssoil;
      absdust = value_fits _ (omega arith) c.absdust own.absdust;
    }

-- and is the card that they are
age_back : (v : Option ℕ) → 1 ≤ months_of v → Some (months_of v) ≡ v
age_back None h = absurd (omega arith)
age_back (Some n) h = refl

card_back : (c : Card) → Running c → card_in (card_words c) ≡ c
unfolding card_in card_words
card_back c run =
    let own = own_within c run.within in
    rw (
      age_back c.age run.first,
      value_back _ (omega arith) c.soil own.soil,
      value_back _ (omega arith) c.dust own.dust,
      value_back _ (omega arith) c.water own.water,
      value_back _ (omega arith) c.air own.air,
      value_back _ (omega arith) c.other own.other,
      value_back _ (omega arith) c.abssoil own.abssoil,
      value_back _ (omega arith) c.absdust own.absdust,
    )

-- every card that runs is what becomes of itself
runs_again : (c : Card) → Running c → start_of (read.Accepted c) ≡ Runs c
runs_again c run = rw (run.runs, run.within)

words_back : (r : RowRead) (x : Start) → start_of r ≡ x → start_in (start_words x) ≡ x
unfolding start_in card_words
words_back r (Runs c) e =
    let run = runs_within r c e in
    ap (λ d. start_of (read.Accepted d)) (card_back c run) ∙ runs_again c run
words_back r Skipped e = refl
words_back r (Refused n) e = refl

pub words_law : WordsLaw
words_law kept = words_back (read_kept kept) (start_of (read_kept kept)) refl

-- nine words each
pub words_long : (x : Start) → length (start_words x) ≡ words_a_row
unfolding card_words
words_long (Runs c) = refl
words_long Skipped = refl
words_long (Refused n) = refl
