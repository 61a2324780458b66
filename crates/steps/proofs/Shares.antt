-- The shares of a day are as many as its steps and sum to its uptake, and so those of n days.
-- Assumes nothing.
use Prim.Native.Nat.{ℕ, zero, suc, ◌+◌, ◌*◌, ◌<◌}
use mathlib.Core.Path.{◌≡◌, refl, ap, sym}
use mathlib.Core.List.{List}
use native.Mathlib.Nat.{add-zero, zero-mul, suc-mul}
use native.Mathlib.Omega.{arith}
use lib.ListN.{length, length-append}
use Rattle.numbers.specs.Lists.{total_of}
use Rattle.numbers.specs.Sums.{sum_to}
use Rattle.numbers.proofs.Sums.{sum-next}
use Rattle.steps.specs.Share.{share_of}
use Rattle.steps.proofs.ShareSum.{share_law}
use Rattle.steps.specs.Steps.{shares_from, day_shares, days_shares}
use Rattle.numbers.proofs.Lists.{total_append}

-- what a list of uptakes sums to
abbrev pub sum_of : List ℕ → ℕ
sum_of us = total_of (λ (u : ℕ). u) us

shares_length : (s T k n : ℕ) → length (shares_from s T k n) ≡ n
unfolding shares_from
shares_length s T k zero = refl
shares_length s T k (suc n) = ap suc (shares_length s T (k + 1) n)

pub days_length : (s T n : ℕ) → length (days_shares s T n) ≡ n * s
unfolding days_shares
days_length s T zero = sym (zero-mul s)
days_length s T (suc n) =
    rw suc-mul (omega (arith, length-append (day_shares s T) (days_shares s T n), shares_length s T 0 s, days_length s T n))

-- the shares before step k, and those of n steps from it on
shares_sum : (s T k n : ℕ) → sum_to k (share_of s T) + sum_of (shares_from s T k n) ≡ sum_to (k + n) (share_of s T)
unfolding shares_from
shares_sum s T k zero = rw (add-zero k) (omega arith)
shares_sum s T k (suc n) =
    let e : k + 1 + n ≡ k + suc n = omega arith in
    let h = rw e at (shares_sum s T (k + 1) n) in
    omega (arith, sum-next k (share_of s T))

module _ (s T : ℕ) (pos : 0 < s) where
  pub day_total : sum_of (day_shares s T) ≡ T
  unfolding sum_to
  day_total =
      let e : 0 + s ≡ s = omega arith in
      let h = rw e at (shares_sum s T 0 s) in
      omega (arith, (share_law s T pos).total)

  pub days_total : (n : ℕ) → sum_of (days_shares s T n) ≡ n * T
  unfolding days_shares
  days_total zero = sym (zero-mul T)
  days_total (suc n) =
      rw suc-mul (omega (arith, total_append (λ (u : ℕ). u) (day_shares s T) (days_shares s T n), day_total, days_total n))
