-- A list's first n elements, changed one after the other, for elements of any type.
-- Assumes nothing.
use Prim.Native.Nat.{ℕ, ◌+◌, ◌≤◌, ◌<◌}
use mathlib.Core.Path.{◌≡◌, ◌∙◌}
use mathlib.Core.List.{List}
use native.Mathlib.Omega.{arith}
use native.Mathlib.Decide.{ℕ_discrete}
use lib.ListN.{length, get_or, set, length-set}
use lib.Seq.{get_or-set_same, get_or-set_other}

module _ {A : Type 0} (d : A) (n : ℕ) where
  -- element i is f i
  pub record AllBy (f : ℕ → A) (l : List A) : Type 0 where
    pub room : n ≤ length l
    pub each : (i : ℕ) → i < n → get_or l i d ≡ f i

  -- those before i are g's, the others still f's
  pub record Turned (f g : ℕ → A) (l : List A) (i : ℕ) : Type 0 where
    pub room : n ≤ length l
    pub done : (j : ℕ) → j < i → j < n → get_or l j d ≡ g j
    pub left : (j : ℕ) → i ≤ j → j < n → get_or l j d ≡ f j

  module _ (f g : ℕ → A) (l : List A) where
    pub turn_start : AllBy f l → Turned f g l 0
    turn_start e = record { room = e.room; done = λ j h k. absurd (omega arith); left = λ j h k. e.each j k }

    pub turn_end : (i : ℕ) → n ≤ i → Turned f g l i → AllBy g l
    turn_end i h u = record { room = u.room; each = λ j k. u.done j (omega arith) k }

    pub turn_next : (i : ℕ) (a : A) → i < n → (get_or l i d ≡ f i → a ≡ g i) → Turned f g l i → Turned f g (set l i a) (i + 1)
    turn_next i a h e u =
        let r = u.room in
        record {
          room = rw length-set r;
          done = λ j k m. here j (ℕ_discrete j i) k m;
          left = λ j k m. get_or-set_other l i j a d (λ z. absurd (omega arith)) ∙ u.left j (omega arith) m;
        }
      where
        here : (j : ℕ) → Dec (j ≡ i) → j < i + 1 → j < n → get_or (set l i a) j d ≡ g j
        here j (yes z) k m =
            let r = u.room in
            rw z (get_or-set_same l i a d (omega arith) ∙ e (u.left i (omega arith) h))
        here j (no z) k m =
            let p : j < i = omega arith in
            get_or-set_other l i j a d z ∙ u.done j p m
