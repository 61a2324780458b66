-- The laws of `specs/Laws.antt`, from the bounds of n media.
-- Assumes nothing.
use mathlib.Core.Path.{◌≡◌, refl}
use mathlib.Core.List.{List}
use Prim.Native.Nat.{ℕ}
use native.Mathlib.Omega.{arith}
use Rattle.exposure.specs.declared.Exposure.{Exposure}
use Rattle.site.specs.Fields.{at}
use Rattle.uptake.specs.Uptake.{saturation_of, absorbable, absorbable_total, air_uptake, passive_uptake, active_uptake, medium_uptake, day_uptake}
use Rattle.uptake.specs.Media.{passive_from, active_from, medium_from, day_from}
use Rattle.uptake.proofs.UptakeBounds.{saturation_law}
use Rattle.sensitivity.specs.Laws.{SensitivityLaw, OwnQLaw, ExposureLaw}
use Rattle.sensitivity.proofs.Bounds.{day_gains, day_falls}

pub sensitivity_law : SensitivityLaw
sensitivity_law q q' percents sat air h medium one small pos =
    let gains = day_gains 5 percents small sat air pos one in
    let falls = day_falls 5 percents small sat air pos one in
    record { least = omega arith; most = omega arith; gain = omega arith }

-- what stands beside the q may be exchanged for its equal
exchanged : (q : ℕ → ℕ) {percents percents' : List ℕ} {sat sat' air air' : ℕ} → percents' ≡ percents → sat' ≡ sat → air' ≡ air
    → day_from 5 q (at percents') sat' air' ≡ day_from 5 q (at percents) sat air
exchanged q a b c = rw (a, b, c)

saturation_same : (e e' : Exposure) (weight weight24 : ℕ) → e'.saturation ≡ e.saturation → saturation_of e' weight weight24 ≡ saturation_of e weight weight24
unfolding saturation_of
saturation_same e e' weight weight24 same = rw same

pub own_q_law : OwnQLaw
unfolding day_uptake medium_uptake passive_uptake active_uptake absorbable_total day_from medium_from active_from passive_from
own_q_law e weight weight24 = refl

pub exposure_law : ExposureLaw
exposure_law e e' weight weight24 h medium lim w one same =
    let after = exchanged (absorbable e') same.passive (saturation_same e e' weight weight24 same.saturation) same.air in
    rw (own_q_law e weight weight24, own_q_law e' weight weight24, after)
    (sensitivity_law (absorbable e) (absorbable e') (at e.passive) (saturation_of e weight weight24) (air_uptake e) h medium one
    lim.passive (saturation_law e weight weight24 lim w))
