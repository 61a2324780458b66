-- The greatest of what a function gives over a range, as code finds it by `max` and 0 where there is none.
-- Assumes nothing.
use mathlib.Core.Path.{◌≡◌}
use mathlib.Core.List.{List, [], ◌∷◌}
use Prim.Native.Nat.{ℕ, zero, suc, ◌+◌, ◌≤◌, ◌<◌, max}
use native.Mathlib.Omega.{arith}
use lib.ListN.{length, get_or}
use Rattle.std.specs.List.{fold, range_with_len}
use Rattle.std.proofs.lemmas.List.FromFn.{length-range_with_len, get_or-range_with_len}

module _ (h : ℕ → ℕ) where
  abbrev greatest : ℕ → List ℕ → ℕ
  greatest a xs = fold (λ m x. max m (h x)) a xs

  from_start : (xs : List ℕ) (a : ℕ) → a ≤ greatest a xs
  from_start [] a = omega arith
  from_start (x ∷ xs) a = omega (arith, from_start xs (max a (h x)))

  each-le : (xs : List ℕ) (a i : ℕ) → i < length xs → h (get_or xs i 0) ≤ greatest a xs
  each-le [] a i l = absurd (omega arith)
  each-le (x ∷ xs) a zero l = omega (arith, from_start xs (max a (h x)))
  each-le (x ∷ xs) a (suc i) l = each-le xs (max a (h x)) i (omega arith)

  greatest-within : (top : ℕ) → ((i : ℕ) → h i ≤ top) → (xs : List ℕ) (a : ℕ) → a ≤ top → greatest a xs ≤ top
  greatest-within top all [] a l = l
  greatest-within top all (x ∷ xs) a l = greatest-within top all xs (max a (h x)) (omega (arith, all x))

  module _ (n : ℕ) where
    pub greatest_reaches : (i : ℕ) → i < n → h i ≤ greatest 0 (range_with_len 0 n)
    greatest_reaches i l =
        let place : 0 + i ≡ i = omega arith in
        rw (get_or-range_with_len 0 n i 0 l, place) at
        (each-le (range_with_len 0 n) 0 i (omega (arith, length-range_with_len 0 n)))

    pub greatest_within : (top : ℕ) → ((i : ℕ) → h i ≤ top) → greatest 0 (range_with_len 0 n) ≤ top
    greatest_within top all = greatest-within top all (range_with_len 0 n) 0 (omega arith)
