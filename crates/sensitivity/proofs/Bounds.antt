-- When one q of n media rises by h, the day's uptake falls by less than n and gains at most h.
-- Assumes nothing.
use mathlib.Core.Path.{◌≡◌, ap}
use Prim.Native.Nat.{ℕ, ◌+◌, ◌-◌, ◌*◌, ◌≤◌, ◌<◌}
use native.Mathlib.Nat.{mul-le-mul_left, mul-pos, lt_of_mul-lt-mul_left}
use native.Mathlib.Decide.{ℕ_discrete}
use native.Mathlib.Omega.{arith}
use Rattle.numbers.specs.Sums.{sum_to}
use Rattle.numbers.proofs.Sums.{sum_add, sum_le, sum_eq}
use Rattle.uptake.specs.Uptake.{percent_of, active_part}
use Rattle.uptake.specs.Media.{passive_from, active_from, medium_from, day_from}
use Rattle.sensitivity.specs.Laws.{OneRises}
use Rattle.sensitivity.proofs.Parts.{passive_most, passive_rises, medium_gains}
use Rattle.sensitivity.proofs.Sums.{sum_but_one, floors_most, floors_least}

-- the n floors of a rest's parts have the sum v, and v' after the divisor rose by h and the rest by h − d: v falls by less than n + d
floors_fall : (n sat divisor h d rest rest' v v' : ℕ) → 0 < n → 0 < divisor → sat ≤ divisor → rest ≤ divisor → rest' + d ≡ rest + h
    → divisor * v ≤ sat * rest → sat * rest' + n ≤ (divisor + h) * (v' + n) → v < v' + d + n
floors_fall n sat divisor h d rest rest' v v' some pos least part risen most near =
    lt_of_mul-lt-mul_left (divisor * (divisor + h))
    (omega (
      arith,
      mul-le-mul_left (divisor + h) most,
      mul-le-mul_left divisor near,
      ap (λ (x : ℕ). divisor * sat * x) risen,
      mul-le-mul_left (divisor * d) least,
      mul-le-mul_left (h * sat) part,
      mul-pos pos some,
    ))

-- q − u, what is left for the active part
abbrev rest_from : (ℕ → ℕ) → (ℕ → ℕ) → ℕ → ℕ
rest_from q percents medium = q medium - passive_from q percents medium

module _ (n : ℕ) (percents : ℕ → ℕ) (small : (j : ℕ) → j < n → percents j ≤ 100) where
  -- the passive parts and the rests are A
  parts_whole : (q : ℕ → ℕ) → sum_to n (passive_from q percents) + sum_to n (rest_from q percents) ≡ sum_to n q
  unfolding passive_from percent_of
  parts_whole q =
      omega (
        arith,
        sum_add n (passive_from q percents) (rest_from q percents),
        sum_eq n (λ j. passive_from q percents j + rest_from q percents j) q (λ j l. omega (arith, passive_most (percents j) (q j) (small j l))),
      )

  module _ (sat air : ℕ) (pos : 0 < sat) {q q' : ℕ → ℕ} {h medium : ℕ} (one : OneRises n q q' h medium) where
    each_rises : (j : ℕ) → j < n → q j ≤ q' j
    each_rises j l =
        elim (ℕ_discrete j medium) [
          | yes e ↦ omega (arith, ap q e, ap q' e, one.risen)
          | no e ↦ omega (arith, one.others j l e)
        ]

    total_rises : sum_to n q' ≡ sum_to n q + h
    total_rises =
        omega (
          arith,
          sum_but_one n q' q medium 0 h one.place (omega (arith, one.risen)) (λ j l e. omega (arith, one.others j l e)),
          sum_but_one n q q' medium h 0 one.place (omega (arith, one.risen)) (λ j l e. omega (arith, one.others j l e)),
        )

    each_gains : (j k : ℕ) → j < n → q' j ≡ q j + k → medium_from n q' percents sat j ≤ medium_from n q percents sat j + k
    unfolding medium_from active_from active_part passive_from percent_of
    each_gains j k l =
        medium_gains sat (sat + sum_to n q) (sat + sum_to n q') pos (omega arith) (omega (arith, total_rises)) (percents j) (q j) k (small j l)

    pub day_gains : day_from n q' percents sat air ≤ day_from n q percents sat air + h
    unfolding day_from
    day_gains =
        omega (
          arith,
          sum_but_one n (medium_from n q' percents sat) (medium_from n q percents sat) medium 0 h one.place
              (omega (arith, each_gains medium h one.place one.risen))
              (λ j l e. omega (arith, each_gains j 0 l (omega (arith, one.others j l e)))),
        )

    passive_sum_rises : sum_to n (passive_from q percents) ≤ sum_to n (passive_from q' percents)
    unfolding passive_from percent_of
    passive_sum_rises = sum_le n (passive_from q percents) (passive_from q' percents) (λ j l. passive_rises (percents j) (each_rises j l))

    active_sum_falls : sum_to n (active_from n q percents sat)
        < sum_to n (active_from n q' percents sat) + (sum_to n (passive_from q' percents) - sum_to n (passive_from q percents)) + n
    unfolding active_from active_part
    active_sum_falls =
        floors_fall n sat (sat + sum_to n q) h (sum_to n (passive_from q' percents) - sum_to n (passive_from q percents))
        (sum_to n (rest_from q percents)) (sum_to n (rest_from q' percents)) (sum_to n (active_from n q percents sat)) (sum_to n (active_from n q' percents sat))
        (omega (arith, one.place))
        (omega arith)
        (omega arith)
        (omega (arith, parts_whole q))
        (omega (arith, parts_whole q, parts_whole q', total_rises, passive_sum_rises))
        (floors_most n (rest_from q percents) sat (sat + sum_to n q))
        (omega (
          arith,
          floors_least n (rest_from q' percents) sat (sat + sum_to n q') (omega arith),
          ap (λ (total : ℕ). (sat + total) * (sum_to n (active_from n q' percents sat) + n)) total_rises,
        ))

    pub day_falls : day_from n q percents sat air < day_from n q' percents sat air + n
    unfolding day_from medium_from
    day_falls =
        omega (
          arith,
          sum_add n (passive_from q percents) (active_from n q percents sat),
          sum_add n (passive_from q' percents) (active_from n q' percents sat),
          passive_sum_rises,
          active_sum_falls,
        )
