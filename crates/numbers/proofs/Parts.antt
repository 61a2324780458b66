-- A list as parts of one width: what placing one part leaves of the others.
-- Assumes nothing.
use Prim.Native.Nat.{ℕ, zero, suc, ◌+◌, ◌-◌, ◌*◌, ◌/◌, ◌≤◌, ◌<◌}
use mathlib.Core.Path.{◌≡◌, refl, sym, ap, ◌∙◌}
use mathlib.Core.Logic.{◌≢◌}
use mathlib.Core.List.{List, [], ◌++◌, append_assoc}
use native.Mathlib.Omega.{arith}
use native.Mathlib.Decide.{dec_lt}
use native.Mathlib.Nat.{mul-le-mul_left}
use lib.ListN.{length, get_or, take, drop, length-append, length-drop, take-append-drop}
use lib.Seq.{take_at, drop_at, drop-drop, length-take-le, drop-append-le, drop-append-add, take-append-le}
use Rattle.std.specs.Simd.{first_chunks}
use Rattle.numbers.specs.Parts.{part_at, placed}

-- a list in chunks of one width, whose parts they are
chunk_at : (w k i : ℕ) (l : List ℕ) → i < k → get_or (first_chunks w k l) i [] ≡ part_at w l i
chunk_at w zero i l h = absurd (omega arith)
chunk_at w (suc k) zero l h = let none : w * 0 ≡ 0 = omega arith in rw none refl
chunk_at w (suc k) (suc i) l h =
    let past : w + w * i ≡ w * suc i = omega arith in
    chunk_at w k i (drop w l) (omega arith) ∙ ap (take w) (drop-drop (w * i) w l ∙ ap (λ n. drop n l) past)

-- and as many chunks as the list is long: chunk i is part i
pub chunk_part : (w k i : ℕ) (l : List ℕ) {chunks : List (List ℕ)} → length l / w ≡ k → i < k → chunks ≡ first_chunks w (length l / w) l
    → get_or chunks i [] ≡ part_at w l i
chunk_part w k i l many h e = ap (λ c. get_or c i []) (e ∙ ap (λ n. first_chunks w n l) many) ∙ chunk_at w k i l h

module _ (w : ℕ) where
  -- a part ends where the next starts
  pub part_ends : {j i : ℕ} → j < i → w * j + w ≤ w * i
  part_ends {j = j} {i = i} h = let more : j + 1 ≤ i = omega arith in let e : w * (j + 1) ≤ w * i = mul-le-mul_left w more in omega (arith, e)

  -- a part lent from its start to its end, as it comes back
  pub placed_lent : (l : List ℕ) (i : ℕ) {part put : List ℕ} → put ≡ part
      → take (w * i) l ++ (put ++ drop (w * i + w - w * i) (drop (w * i) l)) ≡ placed w i part l
  unfolding placed
  placed_lent l i e = let width : w * i + w - w * i ≡ w = omega arith in rw (width, e)

  pub part_long : (n : ℕ) (l : List ℕ) (i : ℕ) → length l ≡ w * n → i < n → length (part_at w l i) ≡ w
  part_long n l i long h = let e : w * i + w ≤ w * n = part_ends h in length-take-le w (drop (w * i) l) (rw length-drop (omega arith))

  front_part : (p q : List ℕ) (j : ℕ) → w * j + w ≤ length p → part_at w (p ++ q) j ≡ part_at w p j
  front_part p q j h =
      rw (drop-append-le (w * j) p q (omega arith), take-append-le w (drop (w * j) p) q (rw length-drop (omega arith)))

  back_part : (p p' q : List ℕ) (j : ℕ) → length p ≡ length p' → length p ≤ w * j → part_at w (p ++ q) j ≡ part_at w (p' ++ q) j
  back_part p p' q j e h =
      let d : w * j ≡ length p + (w * j - length p) = omega arith in
      let d' : w * j ≡ length p' + (w * j - length p) = omega arith in
      ap (λ k. take w (drop k (p ++ q))) d ∙ ap (take w) (drop-append-add p q _ ∙ sym (drop-append-add p' q _))
      ∙ ap (λ k. take w (drop k (p' ++ q))) (sym d')

  module _ (n : ℕ) (l : List ℕ) (i : ℕ) (part : List ℕ) (long : length l ≡ w * n) (h : i < n) (e : length part ≡ w) where
    inside : w * i + w ≤ length l
    inside = let within : w * i + w ≤ w * n = part_ends h in omega (arith, within)

    before_long : length (take (w * i) l) ≡ w * i
    before_long = length-take-le (w * i) l (omega (arith, inside))

    pub placed_long : length (placed w i part l) ≡ w * n
    unfolding placed
    placed_long = simp (length-append, length-drop, before_long, e) (omega (arith, inside))

    pub placed_same : part_at w (placed w i part l) i ≡ part
    unfolding placed
    placed_same = rw (drop_at (take (w * i) l) (part ++ drop w (drop (w * i) l)) (w * i) before_long, take_at part (drop w (drop (w * i) l)) w e)

    placed_before : (j : ℕ) → j < i → part_at w (placed w i part l) j ≡ part_at w l j
    unfolding placed
    placed_before j g =
        let k : w * j + w ≤ length (take (w * i) l) = omega (arith, before_long, part_ends g) in
        front_part (take (w * i) l) _ j k ∙ sym (front_part (take (w * i) l) (drop (w * i) l) j k) ∙ ap (λ x. part_at w x j) (take-append-drop (w * i) l)

    placed-after : (j : ℕ) → i < j → part_at w (placed w i part l) j ≡ part_at w l j
    unfolding placed
    placed-after j g =
        let q = drop w (drop (w * i) l) in
        let a : length (take (w * i) l ++ part) ≡ w * i + w = length-append (take (w * i) l) part ∙ rw (before_long, e) in
        let b : length (take (w * i + w) l) ≡ w * i + w = length-take-le (w * i + w) l inside in
        rw (← append_assoc (take (w * i) l) part q)
        (back_part (take (w * i) l ++ part) (take (w * i + w) l) q j (a ∙ sym b) (omega (arith, a, part_ends g))
        ∙ ap (λ x. part_at w (take (w * i + w) l ++ x) j) (drop-drop w (w * i) l) ∙ ap (λ x. part_at w x j) (take-append-drop (w * i + w) l))

    pub placed-other : (j : ℕ) → j ≢ i → part_at w (placed w i part l) j ≡ part_at w l j
    placed-other j g = go (dec_lt j i)
      where
        go : Dec (j < i) → part_at w (placed w i part l) j ≡ part_at w l j
        go (yes p) = placed_before j p
        go (no p) = placed-after j (omega arith)

  -- parts placed one after the other: what is placed so far, and the rest of the list as it was
  pub placed-next :
      (i : ℕ) (so_far part before l : List ℕ) → length so_far ≡ w * i → l ≡ so_far ++ drop (w * i) before
      → placed w i part l ≡ (so_far ++ part) ++ drop (w * i + w) before
  unfolding placed
  placed-next i so_far part before l long e =
      rw (
        e,
        take_at so_far (drop (w * i) before) (w * i) long,
        drop_at so_far (drop (w * i) before) (w * i) long,
        drop-drop w (w * i) before,
        append_assoc so_far part (drop (w * i + w) before),
      )
