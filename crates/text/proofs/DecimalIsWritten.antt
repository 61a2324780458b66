-- A number's decimal digits are how it is written.
-- Assumes nothing.
use mathlib.Core.Path.{◌≡◌, refl, ap}
use Prim.Native.Nat.{ℕ, zero, suc, ◌+◌, ◌-◌, ◌*◌, ◌/◌, ◌%◌, ◌^◌, ◌≤◌, ◌<◌}
use mathlib.Core.List.{List, [], ◌∷◌, ◌++◌}
use native.Mathlib.Decide.{dec_lt}
use native.Mathlib.Omega.{arith}
use lib.ListN.{length, get_or, length-append, get_or-append}
use lib.Seq.{get_or_at}
use Rattle.text.specs.Decimal.{digit, digits_within}
use Rattle.text.specs.Laws.{value_from, DecimalLaw}
use Rattle.text.proofs.Digits.{digits_one, digits_last, tenth_below}

value_last : (v : ℕ) (ds : List ℕ) (d : ℕ) → value_from v (ds ++ (d ∷ [])) ≡ 10 * value_from v ds + (d - 48)
unfolding value_from
value_last v [] d = refl
value_last v (e ∷ ds) d = value_last (10 * v + (e - 48)) ds d

-- the digits give the number
value_digits : (k n : ℕ) → n < 10 ^ k → value_from 0 (digits_within k n) ≡ n
unfolding value_from digits_within
value_digits zero n h = omega arith
value_digits (suc k) n h =
    elim (dec_lt n 10) [
      | yes l ↦ rw (digits_one k n l) (omega arith)
      | no l ↦
          let front : value_from 0 (digits_within k (n / 10)) ≡ n / 10 = value_digits k (n / 10) (tenth_below k n h) in
          rw (digits_last k n (omega arith), value_last 0 (digits_within k (n / 10)) (digit (n % 10)), front) (omega arith)
    ]

-- what holds of each digit
abbrev Digit : ℕ → Type 0
Digit d = (48 ≤ d) × (d ≤ 57)

abbrev Digits : List ℕ → Type 0
Digits ds = (i : ℕ) → i < length ds → Digit (get_or ds i 0)

digits_then : (ds : List ℕ) (d : ℕ) → Digits ds → Digit d → Digits (ds ++ (d ∷ []))
digits_then ds d front last i h =
    elim (dec_lt i (length ds)) [
      | yes l ↦ rw (get_or-append ds (d ∷ []) 0 i l) (front i l)
      | no l ↦
          let here : length ds ≡ i = omega (arith, length-append ds (d ∷ [])) in
          rw (get_or_at ds d [] 0 i here) last
    ]

each_digit : (k n : ℕ) → Digits (digits_within k n)
unfolding digits_within
each_digit zero n = λ i h. omega arith
each_digit (suc k) n =
    elim (dec_lt n 10) [
      | yes l ↦ rw (digits_one k n l) (digits_then [] (digit n) (λ i h. omega arith) (omega arith, omega arith))
      | no l ↦
          rw (digits_last k n (omega arith)) (digits_then (digits_within k (n / 10)) (digit (n % 10)) (each_digit k (n / 10)) (omega arith, omega arith))
    ]

-- the first byte of a joined text is over `0` if that of its first part is
first_then : (x y : List ℕ) → 48 < get_or x 0 0 → 48 < get_or (x ++ y) 0 0
first_then [] y h = omega arith
first_then (a ∷ x) y h = h

first_digit : (k n : ℕ) → n < 10 ^ k → 0 < n → 48 < get_or (digits_within k n) 0 0
first_digit zero n h g = omega arith
first_digit (suc k) n h g =
    elim (dec_lt n 10) [
      | yes l ↦ rw (digits_one k n l) (omega arith)
      | no l ↦
          rw (digits_last k n (omega arith))
          (first_then (digits_within k (n / 10)) (digit (n % 10) ∷ []) (first_digit k (n / 10) (tenth_below k n h) (omega arith)))
    ]

pub decimal_law : DecimalLaw
decimal_law n h =
    record {
      value = value_digits 10 n h;
      digits = each_digit 10 n;
      one = λ l. ap length (digits_one 9 n l);
      first = λ g. first_digit 10 n h (omega arith);
    }
