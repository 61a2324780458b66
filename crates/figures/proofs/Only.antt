-- What is read as a figure is one: digits, then at most a point and one to three digits, and they give its number.
-- Assumes nothing.
use Prim.Native.Nat.{ℕ, ◌+◌, ◌-◌, ◌*◌, ◌^◌, ◌≤◌, ◌<◌}
use mathlib.Core.Path.{◌≡◌, refl, ap, ◌∙◌, sym}
use mathlib.Core.Bool.{Bool, true, false, cond}
use mathlib.Core.List.{List, [], ◌∷◌, ◌++◌}
use mathlib.Core.Logic.{◌⊎◌, inl, inr}
use native.Mathlib.Omega.{arith}
use borrow.Author.Tests.{leb-true, eqb-true}
use lib.ListN.{length, drop, take-append-drop}
use lib.Dec.{eqb, leb}
use Rattle.text.specs.Characters.{point}
use Rattle.text.specs.Decimal.{digit}
use Rattle.text.specs.Laws.{value_from}
use Rattle.numbers.specs.Lists.{Each}
use Rattle.numbers.proofs.Every.{and_both}
use Rattle.figures.specs.Reading.{Reading, Missing, Figure, Wrong}
use Rattle.figures.specs.Figure.{is_digit, digits_from, whole_of, times, plus, fraction_of, up_to, thousandths_of, is_star, plain_field, figure_field}
use Rattle.figures.specs.Laws.{IsWhole, WholeLaw, pointed, IsFigure, FigureLaw}
use Rattle.figures.proofs.Points.{up_take}

abbrev Digits : List ℕ → Type 0
Digits ds = Each (λ (b : ℕ). (digit 0 ≤ b) × (b ≤ digit 9)) ds

-- a reading is one of three
figure_same : {m n : ℕ} → Figure m ≡ Figure n → m ≡ n
figure_same e = ap number e
  where
    number : Reading → ℕ
    number Missing = 0
    number (Figure n) = n
    number Wrong = 0

figures_in : Reading → ℕ
figures_in Missing = 0
figures_in (Figure n) = 1
figures_in Wrong = 0

wrong_not : {n : ℕ} → Wrong ≡ Figure n → ⊥
unfolding figures_in
wrong_not e = let z = ap figures_in e in omega arith

missing_not : {n : ℕ} → Missing ≡ Figure n → ⊥
unfolding figures_in
missing_not e = let z = ap figures_in e in omega arith

module _ (v d : ℕ) (ds : List ℕ) (n : ℕ) (later : digits_from (10 * v + (d - 48)) ds ≡ Figure n → Digits ds × (value_from (10 * v + (d - 48)) ds ≡ n)) where
  digit_only : (t : Bool) → is_digit d ≡ t → cond t (digits_from (10 * v + (d - 48)) ds) Wrong ≡ Figure n → Digits (d ∷ ds) × (value_from v (d ∷ ds) ≡ n)
  unfolding value_from
  digit_only true t e =
      let both = and_both (leb 48 d) (leb d 57) t in
      (((leb-true 48 d both.0, leb-true d 57 both.1), (later e).0), (later e).1)
  digit_only false t e = absurd (wrong_not e)

digits_only : (v : ℕ) (ds : List ℕ) (n : ℕ) → digits_from v ds ≡ Figure n → Digits ds × (value_from v ds ≡ n)
unfolding digits_from value_from
digits_only v [] n e = (tt, figure_same e)
digits_only v (d ∷ ds) n e = digit_only v d ds n (digits_only (10 * v + (d - 48)) ds n) (is_digit d) refl e

whole_only : (field : List ℕ) (n : ℕ) → whole_of field ≡ Figure n → IsWhole field n
unfolding whole_of
whole_only [] n e = absurd (wrong_not e)
whole_only (d ∷ ds) n e =
    let are = digits_only 0 (d ∷ ds) n e in
    record { some = omega arith; digits = are.0; value = are.1 }

whole_by : (field : List ℕ) (n : ℕ) (t : Bool) → cond t Missing (whole_of field) ≡ Figure n → IsWhole field n
whole_by field n true e = absurd (missing_not e)
whole_by field n false e = whole_only field n e

pub whole_law : WholeLaw
unfolding plain_field
whole_law field n e = whole_by field n (is_star field) e

-- a figure in a smaller unit is one in its own, and a sum that is a figure is one of two figures
record TimesRead (k : ℕ) (r : Reading) (n : ℕ) : Type 0 where
  pub own : ℕ
  pub read : r ≡ Figure own
  pub same : n ≡ own * k

times_read : (k : ℕ) (r : Reading) (n : ℕ) → times k r ≡ Figure n → TimesRead k r n
times_read k Missing n e = absurd (missing_not e)
times_read k (Figure m) n e = record { own = m; read = refl; same = sym (figure_same e) }
times_read k Wrong n e = absurd (wrong_not e)

record PlusRead (v w : Reading) (n : ℕ) : Type 0 where
  pub left : ℕ
  pub right : ℕ
  pub read_left : v ≡ Figure left
  pub read_right : w ≡ Figure right
  pub same : n ≡ left + right

plus_read : (v w : Reading) (n : ℕ) → plus v w ≡ Figure n → PlusRead v w n
plus_read Missing w n e = absurd (wrong_not e)
plus_read (Figure a) Missing n e = absurd (wrong_not e)
plus_read (Figure a) (Figure b) n e = record { left = a; right = b; read_left = refl; read_right = refl; same = sym (figure_same e) }
plus_read (Figure a) Wrong n e = absurd (wrong_not e)
plus_read Wrong w n e = absurd (wrong_not e)

-- what stands from the first b on is nothing, or it begins with b
abbrev FromB : ℕ → List ℕ → Type 0
FromB b rest = (rest ≡ []) ⊎ ((ds : List ℕ) × (rest ≡ b ∷ ds))

up_rest : (b : ℕ) (xs : List ℕ) → FromB b (drop (length (up_to b xs)) xs)
unfolding up_to
up_rest b [] = inl refl
up_rest b (x ∷ xs) = by (eqb x b) refl (up_rest b xs)
  where
    by : (t : Bool) → eqb x b ≡ t → FromB b (drop (length (up_to b xs)) xs) → FromB b (drop (length (cond t [] (x ∷ up_to b xs))) (x ∷ xs))
    by true t later = inr (xs, ap (◌∷ xs) (eqb-true x b t))
    by false t later = later

-- what is read from the point on is nothing, or the point and one to three digits, and they give n thousandths
record Part (rest : List ℕ) (n : ℕ) (ds : List ℕ) : Type 0 where
  pub parts : rest ≡ pointed ds
  pub few : length ds ≤ 3
  pub digits : Digits ds
  pub value : n ≡ value_from 0 ds * 10 ^ (3 - length ds)

pointed_some : (ds : List ℕ) → 0 < length ds → point ∷ ds ≡ pointed ds
pointed_some [] h = absurd (omega arith)
pointed_some (d ∷ ds) h = refl

part_by : (ds : List ℕ) (n : ℕ) (t : Bool) → leb (length ds) 3 ≡ t → cond t (times (10 ^ (3 - length ds)) (whole_of ds)) Wrong ≡ Figure n → Part (point ∷ ds) n ds
part_by ds n true t e =
    let k : ℕ = 10 ^ (3 - length ds) in
    let whole = times_read k (whole_of ds) n e in
    let are = whole_only ds whole.own whole.read in
    record {
      parts = pointed_some ds are.some;
      few = leb-true (length ds) 3 t;
      digits = are.digits;
      value = whole.same ∙ ap (◌* k) (sym are.value);
    }
part_by ds n false t e = absurd (wrong_not e)

part_only : (rest : List ℕ) (n : ℕ) → fraction_of rest ≡ Figure n → FromB point rest → (ds : List ℕ) × Part rest n ds
unfolding fraction_of value_from
part_only rest n e (inl none) =
    ([], record { parts = none; few = omega arith; digits = tt; value = sym (figure_same (sym (ap fraction_of none) ∙ e)) })
part_only rest n e (inr (ds, from)) =
    let part = part_by ds n (leb (length ds) 3) refl (sym (ap fraction_of from) ∙ e) in
    (ds, record { parts = from ∙ part.parts; few = part.few; digits = part.digits; value = part.value })

each_then : (xs ys : List ℕ) → Digits xs → Digits ys → Digits (xs ++ ys)
each_then [] ys p q = q
each_then (x ∷ xs) ys p q = (p.0, each_then xs ys p.1 q)

-- the two parts of a figure, added up
total_of : {m left right own v w : ℕ} → m ≡ left + right → left ≡ own * 1000 → v ≡ own → right ≡ w → m ≡ 1000 * v + w
total_of sum whole value part = omega arith

thousandths_only : (unit : ℕ) (field : List ℕ) (n m : ℕ) → thousandths_of field ≡ Figure m → n ≡ m * unit → IsFigure unit field n
unfolding thousandths_of
thousandths_only unit field n m e scaled =
    let before : List ℕ = up_to point field in
    let rest : List ℕ = drop (length before) field in
    let sum = plus_read (times 1000 (whole_of before)) (fraction_of rest) m e in
    let whole = times_read 1000 (whole_of before) sum.left sum.read_left in
    let are = whole_only before whole.own whole.read in
    let part = part_only rest sum.right sum.read_right (up_rest point field) in
    let after : List ℕ = part.0 in
    let split : before ++ rest ≡ field = ap (◌++ rest) (up_take point field) ∙ take-append-drop (length before) field in
    record {
      before = before;
      after = after;
      parts = sym split ∙ ap (before ++◌) part.1.parts;
      some = are.some;
      few = part.1.few;
      digits = each_then before after are.digits part.1.digits;
      value = scaled ∙ ap (◌* unit) (total_of sum.same whole.same are.value part.1.value);
    }

figure_by : (unit : ℕ) (field : List ℕ) (n : ℕ) (t : Bool) → cond t Missing (times unit (thousandths_of field)) ≡ Figure n → IsFigure unit field n
figure_by unit field n true e = absurd (missing_not e)
figure_by unit field n false e =
    let r = times_read unit (thousandths_of field) n e in
    thousandths_only unit field n r.own r.read r.same

pub figure_law : FigureLaw
unfolding figure_field
figure_law unit field n e = figure_by unit field n (is_star field) e
