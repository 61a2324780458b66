-- Numbers as they are written are read as they are.
-- Assumes nothing.
use Prim.Native.Nat.{ℕ, suc, ◌+◌, ◌-◌, ◌*◌, ◌^◌, ◌≤◌, ◌<◌}
use mathlib.Core.Path.{◌≡◌, refl, ap, ◌∙◌}
use mathlib.Core.Bool.{false}
use mathlib.Core.List.{List, [], ◌∷◌, ◌++◌}
use native.Mathlib.Omega.{arith}
use native.Mathlib.Decide.{dec_lt}
use borrow.Author.Tests.{le-leb, ne_eqb}
use lib.ListN.{length, get_or, drop}
use lib.Seq.{drop-length}
use Rattle.text.specs.Characters.{point}
use Rattle.text.specs.Decimal.{digit, decimal}
use Rattle.text.specs.Laws.{value_from}
use Rattle.text.proofs.DecimalIsWritten.{decimal_law}
use Rattle.numbers.specs.Lists.{Each}
use Rattle.figures.specs.Reading.{Figure}
use Rattle.figures.specs.Figure.{digits_from, whole_of, fraction_of, up_to, thousandths_of, is_star, plain_field, figure_field}
use Rattle.figures.specs.Laws.{WrittenLaw, StarLaw}

-- bytes `0` to `9`
abbrev Digits : List ℕ → Type 0
Digits ds = Each (λ (b : ℕ). (digit 0 ≤ b) × (b ≤ digit 9)) ds

digits_each : (ds : List ℕ) → ((i : ℕ) → i < length ds → (48 ≤ get_or ds i 0) × (get_or ds i 0 ≤ 57)) → Digits ds
digits_each [] h = tt
digits_each (d ∷ ds) h = (h 0 (omega arith), digits_each ds (λ i l. h (suc i) (omega arith)))

digits_read : (v : ℕ) (ds : List ℕ) → Digits ds → digits_from v ds ≡ Figure (value_from v ds)
unfolding digits_from value_from
digits_read v [] w = refl
digits_read v (d ∷ ds) w = simp (le-leb 48 d w.0.0, le-leb d 57 w.0.1) (digits_read (10 * v + (d - 48)) ds w.1)

whole_read : (ds : List ℕ) → 0 < length ds → Digits ds → whole_of ds ≡ Figure (value_from 0 ds)
unfolding whole_of
whole_read [] h w = absurd (omega arith)
whole_read (d ∷ ds) h w = digits_read 0 (d ∷ ds) w

not_star : (ds : List ℕ) → Digits ds → is_star ds ≡ false
not_star [] w = refl
not_star (x ∷ []) w = ne_eqb x 42 (λ e. omega (arith, w.0.0))
not_star (x ∷ y ∷ ys) w = refl

not_star_more : (ds ts : List ℕ) → 0 < length ds → is_star (ds ++ (point ∷ ts)) ≡ false
not_star_more [] ts h = absurd (omega arith)
not_star_more (x ∷ []) ts h = refl
not_star_more (x ∷ y ∷ ys) ts h = refl

-- no digit is a point
up_all : (ds : List ℕ) → Digits ds → up_to point ds ≡ ds
unfolding up_to
up_all [] w = refl
up_all (d ∷ ds) w = simp (ne_eqb d 46 (λ e. omega (arith, w.0.0))) (ap (d ∷◌) (up_all ds w.1))

up_point : (ds ts : List ℕ) → Digits ds → up_to point (ds ++ (point ∷ ts)) ≡ ds
unfolding up_to
up_point [] ts w = refl
up_point (d ∷ ds) ts w = simp (ne_eqb d 46 (λ e. omega (arith, w.0.0))) (ap (d ∷◌) (up_point ds ts w.1))

drop_past : (ds ts : List ℕ) → drop (length ds) (ds ++ ts) ≡ ts
drop_past [] ts = refl
drop_past (d ∷ ds) ts = drop_past ds ts

some_first : (ds : List ℕ) → 48 < get_or ds 0 0 → 0 < length ds
some_first [] h = absurd (omega arith)
some_first (d ∷ ds) h = omega arith

-- a point and one to three digits, in thousandths
part-read :
    (ts : List ℕ) → 0 < length ts → length ts ≤ 3 → Digits ts → fraction_of (point ∷ ts) ≡ Figure (value_from 0 ts * 10 ^ (3 - length ts))
unfolding fraction_of
part-read ts some few w = rw (le-leb (length ts) 3 few, whole_read ts some w)

module _ (n : ℕ) (fits : n < 10 ^ 10) where
  all_digits : Digits (decimal n)
  all_digits = digits_each (decimal n) (decimal_law n fits).digits

  some_digit : 0 < length (decimal n)
  some_digit =
      elim (dec_lt n 10) [
        | yes l ↦ let e = (decimal_law n fits).one l in omega arith
        | no l ↦ some_first (decimal n) ((decimal_law n fits).first (omega arith))
      ]

  read : whole_of (decimal n) ≡ Figure n
  read = whole_read (decimal n) some_digit all_digits ∙ ap Figure (decimal_law n fits).value

  plain_read : plain_field (decimal n) ≡ Figure n
  unfolding plain_field
  plain_read = rw (not_star (decimal n) all_digits) read

  whole-thousandths : thousandths_of (decimal n) ≡ Figure (1000 * n)
  unfolding thousandths_of fraction_of
  whole-thousandths = rw (up_all (decimal n) all_digits, drop-length (decimal n), read) (ap Figure (omega arith))

  whole-figure : (unit : ℕ) → figure_field unit (decimal n) ≡ Figure (1000 * n * unit)
  unfolding figure_field
  whole-figure unit = rw (not_star (decimal n) all_digits, whole-thousandths)

  module _ (unit : ℕ) (ts : List ℕ) (some : 0 < length ts) (few : length ts ≤ 3) (w : Digits ts) where
    parts : thousandths_of (decimal n ++ (point ∷ ts)) ≡ Figure (n * 1000 + value_from 0 ts * 10 ^ (3 - length ts))
    unfolding thousandths_of
    parts = rw (up_point (decimal n) ts all_digits, drop_past (decimal n) (point ∷ ts), read, part-read ts some few w)

    figure_read : (m : ℕ) → n * 1000 + value_from 0 ts * 10 ^ (3 - length ts) ≡ m → figure_field unit (decimal n ++ (point ∷ ts)) ≡ Figure (m * unit)
    unfolding figure_field
    figure_read m e = rw (not_star_more (decimal n) ts some_digit, parts, e)

pub written_law : WrittenLaw
unfolding value_from
written_law n fits =
    record {
      plain = plain_read n fits;
      whole = whole-figure n fits;
      tenths = λ unit a la. figure_read n fits unit (digit a ∷ []) (omega arith) (omega arith) ((omega arith, omega arith), tt) _ (omega arith);
      hundredths = λ unit a b la lb.
          figure_read n fits unit (digit a ∷ digit b ∷ []) (omega arith) (omega arith) ((omega arith, omega arith), ((omega arith, omega arith), tt)) _ (omega arith);
      thousandths = λ unit a b c la lb lc.
          figure_read n fits unit (digit a ∷ digit b ∷ digit c ∷ []) (omega arith) (omega arith)
          ((omega arith, omega arith), ((omega arith, omega arith), ((omega arith, omega arith), tt))) _ (omega arith);
    }

pub star_law : StarLaw
unfolding plain_field figure_field
star_law = record { plain = refl; figure = λ unit. refl }
