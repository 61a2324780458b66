-- The product that the air intake divides, and the parts of the dust and their sum, fit 64 bits, within the limits of an exposure.
-- Assumes nothing.
use mathlib.Core.Path.{◌≡◌}
use Prim.Native.Nat.{ℕ, ◌+◌, ◌-◌, ◌*◌, ◌/◌, ◌≤◌, ◌<◌}
use native.Mathlib.Nat.{mul-le-mul, mul-le-mul_left}
use native.Mathlib.Omega.{arith}
use Rattle.exposure.specs.declared.Exposure.{Exposure}
use Rattle.numbers.specs.Sums.{sum_to}
use Rattle.numbers.proofs.Sums.{sum_le, sum_same}
use Rattle.site.specs.DustPlaces.{place_count, share_of, figure_of}
use Rattle.exposure.specs.Limits.{ExposureLimits}
use Rattle.intake.specs.Intake.{dust_part, place_dust}

module _ {e : Exposure} (lim : ExposureLimits e) where
  -- at most 100 for each of the 24 hours
  hours_most : 100 * e.hours_out + (24 - e.hours_out) * e.indoor ≤ 2_400
  hours_most = omega (arith, mul-le-mul_left (24 - e.hours_out) lim.indoor, lim.hours)

  pub breathed_most : e.air * (100 * e.hours_out + (24 - e.hours_out) * e.indoor) * e.breathing ≤ 24_000_000_000_000_000
  breathed_most = mul-le-mul (mul-le-mul lim.air hours_most) lim.breathing

  -- a part, by a figure that is at most the most of the house's
  pub part_most : (figure share : ℕ) → figure ≤ 1_050_000_000 → share ≤ 100 → dust_part e figure share ≤ 1_050_000_000_000
  unfolding dust_part
  part_most figure share a b =
      let rest : 100 - e.weight_soil ≤ 100 = omega arith in
      omega (arith, mul-le-mul (mul-le-mul (mul-le-mul a lim.eaten) rest) b)

  pub places_most : sum_to place_count (place_dust e) ≤ 5_250_000_000_000
  places_most =
      omega (
        arith,
        sum_le place_count (place_dust e) (λ k. 1_050_000_000_000)
            (λ k h. part_most (figure_of e.dust_places k) (share_of e.dust_places k) (omega (arith, lim.places.figure k h)) (lim.places.shares k h)),
        sum_same place_count 1_050_000_000_000,
      )
