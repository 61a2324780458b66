-- Rows put on the roll, one behind the other.
-- Assumes nothing.
use Prim.Native.Nat.{ℕ, zero, suc, ◌+◌, ◌/◌, ◌≤◌, ◌<◌}
use mathlib.Core.Path.{◌≡◌, refl, sym, ap, ap₂, ◌∙◌}
use mathlib.Core.List.{List, [], ◌∷◌, ◌++◌, map, append-nil, append_assoc}
use native.Mathlib.Omega.{arith}
use native.Mathlib.Numerals.{add-one}
use lib.ListN.{length, get_or}
use Rattle.std.specs.Array.{AllOfLen}
use Rattle.std.specs.Simd.{first_chunks}
use Rattle.numbers.proofs.Parts.{chunk_part, placed_same, placed-other, placed_long}
use Rattle.lines.specs.declared.RowText.{RowText}
use Rattle.lines.proofs.Defaults.{zeros}
use Rattle.card.specs.Row.{read_kept}
use Rattle.cardsite.specs.Start.{Start, start_of}
use Rattle.roll.specs.declared.Roll.{Roll}
use Rattle.roll.specs.Blank.{blank}
use Rattle.roll.specs.Words.{rows_a_group, words_a_row, roll_words, start_words, start_in, start_at, starts_in}
use Rattle.roll.specs.Enrol.{with_row, with_rows}
use Rattle.roll.specs.Laws.{RollLaw}
use Rattle.roll.proofs.RowWords.{words_law, words_long}

-- a roll by default has no row
pub no_row : (roll : Roll) → AllOfLen (λ x. x ≡ 0) roll.words roll_words → roll.count ≡ 0 → roll ≡ blank
no_row roll words count = rw (zeros roll_words roll.words words, count) refl

-- a roll in rows
pub row_at :
    (roll : List ℕ) (rows : List (List ℕ)) (i : ℕ) {x : Start} → length roll ≡ roll_words → i < rows_a_group
    → rows ≡ first_chunks words_a_row (length roll / words_a_row) roll → x ≡ start_in (get_or rows i []) → x ≡ start_at roll i
row_at roll rows i long h front e =
    e ∙ ap start_in (chunk_part words_a_row rows_a_group i roll (ap (λ n. n / words_a_row) long) h front)

-- rolls with the same first n rows
starts_same : (n : ℕ) (a b : List ℕ) → ((j : ℕ) → j < n → start_at a j ≡ start_at b j) → starts_in n a ≡ starts_in n b
unfolding starts_in
starts_same zero a b same = refl
starts_same (suc n) a b same = ap₂ (λ l x. l ++ (x ∷ [])) (starts_same n a b (λ j h. same j (omega arith))) (same n (omega arith))

module _ (roll : List ℕ) (long : length roll ≡ roll_words) (n : ℕ) (h : n < rows_a_group) (kept : RowText) where
  abbrev words : List ℕ
  words = start_words (start_of (read_kept kept))

  row_is : start_at (with_row n kept roll) n ≡ start_of (read_kept kept)
  row_is = ap start_in (placed_same words_a_row rows_a_group roll n words long h (words_long (start_of (read_kept kept)))) ∙ words_law kept

  others_stay : (j : ℕ) → j < n → start_at (with_row n kept roll) j ≡ start_at roll j
  others_stay j g = ap start_in (placed-other words_a_row rows_a_group roll n words long h (words_long (start_of (read_kept kept))) j (λ z. absurd (omega arith)))

  pub with_row_long : length (with_row n kept roll) ≡ roll_words
  with_row_long = placed_long words_a_row rows_a_group roll n words long h (words_long (start_of (read_kept kept)))

pub roll_law : RollLaw
unfolding starts_in
roll_law roll long n h kept =
    rw add-one (ap₂ (λ l x. l ++ (x ∷ [])) (starts_same n _ roll (others_stay roll long n h kept)) (row_is roll long n h kept))

-- rows after rows
pub rolled_rows : (n : ℕ) (rows : List RowText) (roll : List ℕ) → length roll ≡ roll_words → n + length rows ≤ rows_a_group
    → starts_in (n + length rows) (with_rows n rows roll) ≡ starts_in n roll ++ map (λ (kept : RowText). start_of (read_kept kept)) rows
unfolding with_rows
rolled_rows n [] roll long few =
    let none : n + 0 ≡ n = omega arith in
    rw none (sym (append-nil (starts_in n roll)))
rolled_rows n (kept ∷ rows) roll long few =
    let one : n + suc (length rows) ≡ suc n + length rows = omega arith in
    rw one
    (rolled_rows (suc n) rows (with_row n kept roll) (with_row_long roll long n (omega arith) kept) (omega arith)
    ∙ ap (◌++ map (λ (k : RowText). start_of (read_kept k)) rows) (ap (λ m. starts_in m (with_row n kept roll)) (sym (add-one n)) ∙ roll_law roll long n (omega arith) kept)
    ∙ append_assoc (starts_in n roll) (start_of (read_kept kept) ∷ []) (map (λ (k : RowText). start_of (read_kept k)) rows))
