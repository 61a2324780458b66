-- Text put into lent bytes: a byte, one text after another, a loop that puts a text byte by byte, and a line at the start.
-- Assumes nothing.
use mathlib.Core.Path.{◌≡◌, refl, ap, ◌∙◌}
use Prim.Native.Nat.{ℕ, suc, ◌+◌, ◌≤◌, ◌<◌}
use mathlib.Core.List.{List, [], ◌∷◌, ◌++◌}
use native.Mathlib.Nat.{add-zero, zero-add}
use native.Mathlib.Numerals.{add-one}
use native.Mathlib.Omega.{arith}
use lib.ListN.{length, take, drop, set, get_or, length-append, length-set}
use lib.Seq.{take_all, take-suc, sets, sets-eq}
use Rattle.text.specs.Internal.{Put}

-- a text stored past another: the two joined, stored at once
sets_then : (x y l : List ℕ) (i : ℕ) → sets (sets l i x) (i + length x) y ≡ sets l i (x ++ y)
sets_then [] y l i = rw add-zero
sets_then (a ∷ x) y l i =
    let next : i + suc (length x) ≡ suc i + length x = omega arith in
    rw next (sets_then x y (set l i a) (suc i))

-- a store puts one byte
pub put_one : {l : List ℕ} {i v : ℕ} → Put l i (v ∷ []) 1 (set l i v) (i + 1)
put_one {l} {i} {v} = record { is = refl; past = refl; long = length-set l i v; small = omega arith }

-- a text put past another
pub put_then : {l m a x y : List ℕ} {i j e p q : ℕ} → Put l i x p m j → Put m j y q a e → Put l i (x ++ y) (p + q) a e
put_then {l} {x = x} {y} {i} f g =
    record {
      is = g.is ∙ rw (f.is, f.past) (sets_then x y l i);
      past = omega (arith, f.past, g.past, length-append x y);
      long = g.long ∙ f.long;
      small = omega (arith, f.small, g.small);
    }

-- the same text, and another bound of its length
pub put_as : {l a x y : List ℕ} {i e p q : ℕ} → Put l i x p a e → x ≡ y → e ≤ i + q → Put l i y q a e
put_as {l} {i = i} f same h =
    record { is = f.is ∙ ap (sets l i) same; past = f.past ∙ ap (λ (t : List ℕ). i + length t) same; long = f.long; small = h }

-- a loop that puts a text: none of it, one byte more, and the whole
module _ {l : List ℕ} {place : ℕ} (text : List ℕ) where
  pub text_none : Put l place (take 0 text) 0 l (place + 0)
  text_none = record { is = refl; past = refl; long = refl; small = omega arith }

  pub text_next : {m : List ℕ} {i : ℕ} → i < length text → Put l place (take i text) i m (place + i)
      → Put l place (take (i + 1) text) (i + 1) (set m (place + i) (get_or text i 0)) (place + (i + 1))
  text_next {i = i} h f =
      let next : place + (i + 1) ≡ place + i + 1 = omega arith in
      let more : take (i + 1) text ≡ take i text ++ (get_or text i 0 ∷ []) = rw add-one (take-suc text i 0 h) in
      rw (next, more) (put_then f put_one)

  pub text_whole : {m : List ℕ} {i : ℕ} → i ≡ length text → Put l place (take i text) i m (place + i) → Put l place text (length text) m (place + i)
  text_whole {i = i} h f = put_as f (take_all i text (omega arith)) (omega arith)

-- a line put at the start, if it fits, is what the bytes begin with, and the rest is kept
pub put_line : {l a x y : List ℕ} {e p : ℕ} → y ≡ x → Put l 0 x p a e → p ≤ length l → (e ≡ length y) × (a ≡ y ++ drop (length y) l)
put_line {l} {x = x} {e = e} same f fits =
    let end : e ≡ length x = f.past ∙ zero-add (length x) in
    let short : 0 + length x ≤ length l = omega (arith, f.past, f.small) in
    let bytes : sets l 0 x ≡ x ++ drop (length x) l = rw zero-add at (sets-eq x l 0 short) in
    rw same (end, f.is ∙ bytes)
