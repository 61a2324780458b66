-- One medium's passive and active part, and how far each moves when its q rises.
-- Assumes nothing.
use mathlib.Core.Path.{◌≡◌}
use Prim.Native.Nat.{ℕ, ◌+◌, ◌-◌, ◌*◌, ◌/◌, ◌≤◌, ◌<◌}
use native.Mathlib.Nat.{mul-le-mul_left, mul-le-mul_right, div-lt_iff_lt-mul, lt-div-mul-add}
use native.Mathlib.Omega.{arith}

-- the passive part is at most q; it does not fall when q rises by k, and gains at most k
module _ (percent q : ℕ) (small : percent ≤ 100) where
  pub passive_most : percent * q / 100 ≤ q
  passive_most = omega (arith, mul-le-mul_right q small)

  pub passive_gains : (k : ℕ) → percent * (q + k) / 100 ≤ percent * q / 100 + k
  passive_gains k = omega (arith, mul-le-mul_right k small)

pub passive_rises : (percent : ℕ) {q q' : ℕ} → q ≤ q' → percent * q / 100 ≤ percent * q' / 100
passive_rises percent l = omega (arith, mul-le-mul_left percent l)

-- the active part gains at most what its rest gains, where the divisor does not fall
module _ (sat divisor divisor' : ℕ) (pos : 0 < sat) (least : sat ≤ divisor) (more : divisor ≤ divisor') where
  active_under : (rest k : ℕ) → (rest + k) * sat < (rest * sat / divisor + k + 1) * divisor'
  active_under rest k =
      omega (
        arith,
        lt-div-mul-add {a = rest * sat} {b = divisor} (omega arith),
        mul-le-mul_left (rest * sat / divisor) more,
        mul-le-mul_left k least,
        mul-le-mul_left k more,
      )

  active_gains : (rest k : ℕ) → (rest + k) * sat / divisor' ≤ rest * sat / divisor + k
  active_gains rest k =
      omega (arith, (div-lt_iff_lt-mul {k = divisor'} {x = (rest + k) * sat} {y = rest * sat / divisor + k + 1} (omega arith)).1 (active_under rest k))

  -- so both parts together gain at most what q gains
  pub medium_gains : (percent q k : ℕ) {q' : ℕ} → percent ≤ 100 → q' ≡ q + k
      → percent * q' / 100 + (q' - percent * q' / 100) * sat / divisor'
      ≤ percent * q / 100 + (q - percent * q / 100) * sat / divisor + k
  medium_gains percent q k small risen =
      rw risen
      (split
      (percent * q / 100)
      (percent * (q + k) / 100)
      (passive_most percent q small)
      (passive_rises percent (omega arith))
      (passive_gains percent q small k))
    where
      split : (u u' : ℕ) → u ≤ q → u ≤ u' → u' ≤ u + k
          → u' + (q + k - u') * sat / divisor' ≤ u + (q - u) * sat / divisor + k
      split u u' a b c =
          let rest : q + k - u' ≡ q - u + (u + k - u') = omega arith in
          rw rest (omega (arith, active_gains (q - u) (u + k - u')))
