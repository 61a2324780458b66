-- Whether a test holds of each number of a range, as `(a..b).all(..)` finds it.
-- Assumes nothing.
use mathlib.Core.Path.{◌≡◌, refl, ap, ◌∙◌}
use mathlib.Core.Bool.{Bool, ◌&&◌}
use Prim.Native.Nat.{ℕ, zero, suc, ◌+◌}
use native.Mathlib.Omega.{arith}
use Rattle.std.specs.List.{list_all, range_with_len}
use Rattle.numbers.specs.Choice.{every}

pub all_every : (f : ℕ → Bool) (a n : ℕ) → list_all f (range_with_len a n) ≡ every f a n
unfolding every
all_every f a zero = refl
all_every f a (suc n) =
    let next : a + 1 ≡ suc a = omega arith in
    ap (λ (rest : Bool). f a && rest) (all_every f (a + 1) n ∙ ap (λ (k : ℕ). every f k n) next)
