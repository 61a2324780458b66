-- Digits with a comma before each three: how many bytes there are at most, and the last three.
-- Assumes nothing.
use mathlib.Core.Path.{◌≡◌, sym, ap, ◌∙◌}
use Prim.Native.Nat.{ℕ, zero, suc, ◌+◌, ◌*◌, ◌/◌, ◌^◌, ◌≤◌, ◌<◌}
use mathlib.Core.List.{List, ◌++◌}
use native.Mathlib.Nat.{div-lt_iff_lt-mul, pow-suc}
use native.Mathlib.Decide.{dec_lt}
use native.Mathlib.Omega.{arith}
use borrow.Author.Tests.{lt-ltb, le-ltb}
use lib.ListN.{length, length-append}
use Rattle.text.specs.Decimal.{decimal}
use Rattle.text.proofs.Digits.{digits_length}
use Rattle.leaflet.specs.Grouped.{last_three, grouped_within, grouped}
use Rattle.leaflet.specs.Internal.{grouped_limit}

-- a number below 1,000 has no comma; a larger one is that of its thousands, and the last three digits
groups_one : (k n : ℕ) → n < 1_000 → grouped_within (suc k) n ≡ decimal n
unfolding grouped_within
groups_one k n h = rw (lt-ltb n 1_000 h)

groups-last : (k n : ℕ) → 1_000 ≤ n → grouped_within (suc k) n ≡ grouped_within k (n / 1_000) ++ last_three n
unfolding grouped_within
groups-last k n h = rw (le-ltb n 1_000 h)

-- ten digits and four bytes for each three at most
groups-length : (k n : ℕ) → length (grouped_within k n) ≤ 6 + 4 * k
unfolding grouped_within
groups-length zero n = omega arith
groups-length (suc k) n =
    elim (dec_lt n 1_000) [
      | yes h ↦ rw (groups_one k n h) (omega (arith, digits_length 10 n))
      | no h ↦
          rw (groups-last k n (omega arith)) (omega (arith, groups-length k (n / 1_000), length-append (grouped_within k (n / 1_000)) (last_three n)))
    ]

-- if k + 1 threes hold n, one more makes no difference
groups_enough : (k n : ℕ) → n < 1_000 ^ suc k → grouped_within (suc (suc k)) n ≡ grouped_within (suc k) n
groups_enough zero n h = groups_one 1 n h ∙ sym (groups_one 0 n h)
groups_enough (suc k) n h =
    elim (dec_lt n 1_000) [
      | yes l ↦ groups_one (suc (suc k)) n l ∙ sym (groups_one (suc k) n l)
      | no l ↦
          groups-last (suc (suc k)) n (omega arith)
          ∙ ap (λ (l : List ℕ). l ++ last_three n) (groups_enough k (n / 1_000) ((div-lt_iff_lt-mul {k = 1_000} {x = n} {y = 1_000 ^ suc k} (omega arith)).1 (rw pow-suc at h)))
          ∙ sym (groups-last (suc k) n (omega arith))
    ]

-- a number below 10^12 with its commas: its decimal digits, or its thousands, in 18 bytes at most, and the last three digits
pub grouped_one : (n : ℕ) → n < 1_000 → grouped n ≡ decimal n
grouped_one n h = groups_one 3 n h

thousands : (n : ℕ) → n < grouped_limit → grouped (n / 1_000) ≡ grouped_within 3 (n / 1_000)
thousands n fits =
    let few : n / 1_000 < 1_000_000_000 = omega arith in
    groups_enough 2 (n / 1_000) few

pub thousands_short : (n : ℕ) → n < grouped_limit → length (grouped (n / 1_000)) ≤ 18
thousands_short n fits = rw (thousands n fits) (groups-length 3 (n / 1_000))

pub grouped_last : (n : ℕ) → n < grouped_limit → 1_000 ≤ n → grouped n ≡ grouped (n / 1_000) ++ last_three n
grouped_last n fits h = rw (thousands n fits) (groups-last 3 n h)
