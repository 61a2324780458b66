-- The shares of a day add up to the day's uptake, for any positive number of steps.
-- Assumes nothing.
use mathlib.Core.Path.{◌≡◌, sym, ◌∙◌}
use Prim.Native.Nat.{ℕ, zero, suc, ◌+◌, ◌*◌, ◌/◌, ◌≤◌, ◌<◌}
use native.Mathlib.Nat.{le-div_iff_mul-le, div-mul-le_self, le_trans, mul-le-mul_left, mul-div_cancel, mul-zero, zero-div}
use native.Mathlib.Numerals.{add-one}
use native.Mathlib.Omega.{arith}
use Rattle.numbers.specs.Sums.{sum_to}
use Rattle.steps.specs.Share.{share_of}
use Rattle.steps.specs.Laws.{ShareLaws}

div_mono : {a b : ℕ} (s : ℕ) → 0 < s → a ≤ b → a / s ≤ b / s
div_mono {a} s pos h = (le-div_iff_mul-le pos).1 (le_trans (div-mul-le_self a s) h)

module _ (s T : ℕ) (pos : 0 < s) where
  -- what is absorbed by step k's start is no more by its end
  pub absorbed_mono : (k : ℕ) → T * k / s ≤ T * (k + 1) / s
  absorbed_mono k = div_mono s pos (mul-le-mul_left T (omega arith))

  absorbed_whole : T * s / s ≡ T
  absorbed_whole = mul-div_cancel T pos

  absorbed_le : (k : ℕ) → k ≤ s → T * k / s ≤ T
  absorbed_le k h = rw absorbed_whole at (div_mono s pos (mul-le-mul_left T h))

  share_of_le : (k : ℕ) → k < s → share_of s T k ≤ T
  unfolding share_of
  share_of_le k h = omega (arith, absorbed_le (k + 1) (omega arith))

  -- n shares are what is absorbed by the end of step n - 1
  shares_absorbed : (n : ℕ) → sum_to n (share_of s T) ≡ T * n / s
  unfolding sum_to share_of
  shares_absorbed zero = sym (rw (mul-zero, zero-div))
  shares_absorbed (suc n) = rw (← add-one n) (omega (arith, shares_absorbed n, absorbed_mono n))

pub share_law : ShareLaws
share_law s T pos = record { total = shares_absorbed s T pos s ∙ absorbed_whole s T pos; each = share_of_le s T pos }
