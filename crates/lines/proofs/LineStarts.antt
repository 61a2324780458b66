-- Where the lines of a text start, and the walk through a text of rows, line by line.
-- Assumes nothing.
use Prim.Native.Nat.{ℕ, zero, suc, ◌+◌}
use mathlib.Core.Path.{◌≡◌, refl, sym, ap, ap₂, ◌∙◌}
use mathlib.Core.Bool.{Bool, true, false, cond, true≢false}
use mathlib.Core.List.{List, [], ◌∷◌, ◌++◌, append_assoc}
use native.Mathlib.Omega.{arith}
use lib.ListN.{length, drop}
use lib.Seq.{drop-nil}
use lib.Dec.{eqb}
use Rattle.text.specs.Characters.{line_feed}
use Rattle.lines.specs.declared.RowText.{RowText}
use Rattle.lines.specs.declared.Reader.{Reader}
use Rattle.lines.specs.Walk.{Walk}
use Rattle.lines.specs.Text.{in_front, pieces, lines_of, line_start}
use Rattle.lines.specs.Stream.{row_start, ends, next_of, after, ended, last}
use Rattle.lines.specs.Walk.{past_row_end, byte_then, walk_of, row_in}
use Rattle.lines.specs.Laws.{LineStartLaw}
use Rattle.lines.proofs.Walks.{walked}

-- lines after a byte that ends none
drop_front : (k x : ℕ) (ps : List (List ℕ)) → drop (suc k) ps ≡ drop (suc k) (in_front x ps)
unfolding in_front
drop_front k x [] = sym (drop-nil k)
drop_front k x (p ∷ ps) = refl

module _ (k x : ℕ) (xs : List ℕ) (here : lines_of (drop (line_start k xs) xs) ≡ drop k (lines_of xs))
    (later : lines_of (drop (line_start (suc k) xs) xs) ≡ drop (suc k) (lines_of xs)) where
  starts_by : (t : Bool)
      → lines_of (drop (cond t (suc (line_start k xs)) (suc (line_start (suc k) xs))) (x ∷ xs)) ≡ drop (suc k) (cond t ([] ∷ lines_of xs) (in_front x (lines_of xs)))
  starts_by true = here
  starts_by false = later ∙ drop_front k x (lines_of xs)

pub line_starts : LineStartLaw
unfolding line_start lines_of pieces
line_starts zero text = refl
line_starts (suc k) [] = refl
line_starts (suc k) (x ∷ xs) = starts_by k x xs (line_starts k xs) (line_starts (suc k) xs) (eqb x line_feed)

-- a walk from within a row: at a line feed it is at the start of the next line, else at the end of the text
pub record LineWalked (k : ℕ) (text : List ℕ) (w : Walk) : Type 0 where
  pub fresh : w.ended ≡ true → w.reader ≡ row_start
  pub line : w.ended ≡ true → line_start (suc k) text ≡ w.used + line_start k (drop w.used text)
  pub end : w.ended ≡ false → line_start (suc k) text ≡ length text

one_more : (m n : ℕ) → suc (m + n) ≡ suc m + n
one_more m n = omega arith

-- a reader in a row
abbrev InRows : Reader → Type 0
InRows r = r.headings ≡ 0

module _ (k : ℕ) (r : Reader) (in_rows : InRows r) (b : ℕ) (bs : List ℕ) where
  ends_by : (t : Bool) → eqb b line_feed ≡ t → ends r b ≡ t
  unfolding ends
  ends_by t e = rw (in_rows, e)

  fresh_line : eqb b line_feed ≡ true → next_of r b ≡ row_start
  unfolding next_of row_start
  fresh_line e = rw (e, in_rows)

  stays_in_rows : eqb b line_feed ≡ false → InRows (next_of r b)
  unfolding next_of
  stays_in_rows e = rw (e, in_rows)

  line_ended : eqb b line_feed ≡ true → LineWalked k (b ∷ bs) (past_row_end r b)
  unfolding line_start
  line_ended e =
      let one : suc (line_start k bs) ≡ 1 + line_start k bs = omega arith in
      record { fresh = λ h. fresh_line e; line = λ h. rw e one; end = λ h. absurd (true≢false h) }

  line_goes_on : eqb b line_feed ≡ false → LineWalked k bs (walk_of (next_of r b) bs) → LineWalked k (b ∷ bs) (byte_then (walk_of (next_of r b) bs))
  unfolding line_start
  line_goes_on e rest =
      record {
        fresh = rest.fresh;
        line = λ h. rw e (ap suc (rest.line h) ∙ one_more (walk_of (next_of r b) bs).used _);
        end = λ h. rw e (ap suc (rest.end h));
      }

  line_by : (t : Bool) → eqb b line_feed ≡ t → (eqb b line_feed ≡ false → LineWalked k bs (walk_of (next_of r b) bs))
      → LineWalked k (b ∷ bs) (cond (ends r b) (past_row_end r b) (byte_then (walk_of (next_of r b) bs)))
  line_by true e rest = rw (ends_by true e) (line_ended e)
  line_by false e rest = rw (ends_by false e) (line_goes_on e (rest e))

pub line_walked : (k : ℕ) (r : Reader) → r.headings ≡ 0 → (text : List ℕ) → LineWalked k text (walk_of r text)
unfolding walk_of line_start
line_walked k r in_rows [] = record { fresh = λ h. absurd (true≢false (sym h)); line = λ h. absurd (true≢false (sym h)); end = λ h. refl }
line_walked k r in_rows (b ∷ bs) =
    line_by k r in_rows b bs (eqb b line_feed) refl (λ e. line_walked k (next_of r b) (stays_in_rows k r in_rows b bs e) bs)

-- the rows of a text that are still to come, of what is kept of them
abbrev pub rows_left : Reader → List ℕ → List RowText
rows_left r text = ended r text ++ last (after r text)

-- a walk passes one of them or none
pub left_walked : (r : Reader) (text : List ℕ) → row_in (walk_of r text) ++ rows_left (walk_of r text).reader (drop (walk_of r text).used text) ≡ rows_left r text
left_walked r text =
    let w = walked r text in
    sym (append_assoc (row_in (walk_of r text)) _ _) ∙ ap₂ ◌++◌ w.passes (ap last w.leads)
