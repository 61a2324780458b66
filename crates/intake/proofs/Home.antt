-- Where no share is above 0, the dust is the house's alone.
-- Assumes nothing.
use mathlib.Core.Path.{◌≡◌, refl, sym, ap, ◌∙◌}
use Prim.Native.Nat.{ℕ, ◌+◌, ◌-◌, ◌*◌, ◌/◌, ◌<◌}
use native.Mathlib.Nat.{add-zero, mul-zero}
use Rattle.std.proofs.Math.Nat.{mul-div-mul_right}
use native.Mathlib.Omega.{arith}
use Rattle.numbers.specs.Sums.{sum_to}
use Rattle.numbers.proofs.Sums.{sum_eq, sum-zero}
use Rattle.site.specs.DustPlaces.{place_count, share_of, figure_of, shares_away}
use Rattle.site.specs.Limits.{AtHome}
use Rattle.exposure.specs.declared.Exposure.{Exposure}
use Rattle.intake.specs.Intake.{dust_concentration, dust_part, place_dust, dust_intake}
use Rattle.intake.specs.Laws.{HomeLaw}

none : (g : ℕ → ℕ) → ((k : ℕ) → k < place_count → g k ≡ 0) → sum_to place_count g ≡ 0
none g zero = sum_eq place_count g (λ k. 0) zero ∙ sum-zero place_count

module _ (e : Exposure) (home : AtHome e.dust_places) where
  away : shares_away e.dust_places ≡ 0
  unfolding shares_away
  away = none (share_of e.dust_places) home

  no_part : (k : ℕ) → k < place_count → place_dust e k ≡ 0
  unfolding dust_part
  no_part k h = rw (home k h) (ap (λ (n : ℕ). n / 10_000) (mul-zero (figure_of e.dust_places k * e.eaten * (100 - e.weight_soil))))

pub home_dust : HomeLaw
unfolding dust_intake dust_part
home_dust e home =
    let parts : sum_to place_count (place_dust e) ≡ 0 = none (place_dust e) (no_part e home) in
    let none_away : shares_away e.dust_places ≡ 0 = away e home in
    rw (none_away, parts)
    (add-zero (dust_concentration e * e.eaten * (100 - e.weight_soil) * 100 / 10_000)
    ∙ mul-div-mul_right {m = 100} (dust_concentration e * e.eaten * (100 - e.weight_soil)) 100 (omega arith))
