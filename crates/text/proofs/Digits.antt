-- Decimal digits: how many there are at most, and the last one.
-- Assumes nothing.
use mathlib.Core.Path.{◌≡◌, sym, ap, ◌∙◌}
use Prim.Native.Nat.{ℕ, zero, suc, ◌/◌, ◌%◌, ◌^◌, ◌≤◌, ◌<◌}
use mathlib.Core.List.{List, [], ◌∷◌, ◌++◌}
use native.Mathlib.Nat.{div-lt_iff_lt-mul, pow-suc}
use native.Mathlib.Decide.{dec_lt}
use native.Mathlib.Omega.{arith}
use borrow.Author.Tests.{lt-ltb, le-ltb}
use lib.ListN.{length, length-append}
use Rattle.text.specs.Decimal.{digit, digits_within, decimal}

-- a number below 10 is one digit; a larger one is the digits of its tenth and the last one
pub digits_one : (k n : ℕ) → n < 10 → digits_within (suc k) n ≡ digit n ∷ []
unfolding digits_within
digits_one k n h = rw (lt-ltb n 10 h)

pub digits_last : (k n : ℕ) → 10 ≤ n → digits_within (suc k) n ≡ digits_within k (n / 10) ++ (digit (n % 10) ∷ [])
unfolding digits_within
digits_last k n h = rw (le-ltb n 10 h)

-- k digits at most
pub digits_length : (k n : ℕ) → length (digits_within k n) ≤ k
unfolding digits_within
digits_length zero n = omega arith
digits_length (suc k) n =
    elim (dec_lt n 10) [
      | yes h ↦ rw (digits_one k n h) (omega arith)
      | no h ↦
          let front : length (digits_within k (n / 10)) ≤ k = digits_length k (n / 10) in
          rw (digits_last k n (omega arith)) (omega (arith, length-append (digits_within k (n / 10)) (digit (n % 10) ∷ [])))
    ]

-- one digit fewer holds a number's tenth
pub tenth_below : (k n : ℕ) → n < 10 ^ suc k → n / 10 < 10 ^ k
tenth_below k n h = (div-lt_iff_lt-mul {k = 10} {x = n} {y = 10 ^ k} (omega arith)).1 (rw pow-suc at h)

-- if k + 1 digits hold n, one more makes no difference
digits_enough : (k n : ℕ) → n < 10 ^ suc k → digits_within (suc (suc k)) n ≡ digits_within (suc k) n
digits_enough zero n h = digits_one 1 n h ∙ sym (digits_one 0 n h)
digits_enough (suc k) n h =
    elim (dec_lt n 10) [
      | yes l ↦ digits_one (suc (suc k)) n l ∙ sym (digits_one (suc k) n l)
      | no l ↦
          digits_last (suc (suc k)) n (omega arith)
          ∙ ap (λ (l : List ℕ). l ++ (digit (n % 10) ∷ [])) (digits_enough k (n / 10) (tenth_below (suc k) n h))
          ∙ sym (digits_last (suc k) n (omega arith))
    ]

-- the digits of a number below 10^10: one, or those of its tenth, nine at most, and the last one
pub decimal_one : (n : ℕ) → n < 10 → decimal n ≡ digit n ∷ []
decimal_one n h = digits_one 9 n h

tenth_nine : (n : ℕ) → n < 10_000_000_000 → decimal (n / 10) ≡ digits_within 9 (n / 10)
tenth_nine n fits =
    let few : n / 10 < 1_000_000_000 = omega arith in
    digits_enough 8 (n / 10) few

pub tenth_short : (n : ℕ) → n < 10_000_000_000 → length (decimal (n / 10)) ≤ 9
tenth_short n fits = rw (tenth_nine n fits) (digits_length 9 (n / 10))

pub decimal_last : (n : ℕ) → n < 10_000_000_000 → 10 ≤ n → decimal n ≡ decimal (n / 10) ++ (digit (n % 10) ∷ [])
decimal_last n fits h = rw (tenth_nine n fits) (digits_last 9 n h)
