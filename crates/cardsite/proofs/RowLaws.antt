-- A card over fields that fit gives fields that fit, and so a scenario within the limits.
-- Assumes nothing.
use mathlib.Core.Path.{◌≡◌}
use mathlib.Core.Bool.{false}
use mathlib.Core.List.{List}
use Prim.Native.Nat.{ℕ, ◌<◌}
use native.Mathlib.Omega.{arith}
use borrow.Author.Tests.{ltb-false}
use Rattle.site.specs.Fields.{groups, limits, by_age, single, air_group, soil_group, dust_group, alternate_group, dust_mode_at, water_mode_at, constant_at, first_draw_share_at, fountain_share_at, absorbed_dust_at, absorbed_soil_at, saturation_at}
use Rattle.site.specs.Put.{every_age, singly}
use Rattle.site.specs.Scenario.{scenario_of}
use Rattle.site.specs.Laws.{Fits, Plain}
use Rattle.site.proofs.PutFits.{singly_fits, every_age_fits}
use Rattle.exposure.proofs.ExposureWithin.{exposure_within}
use Rattle.std.specs.Prelude.{Option, None, Some}
use Rattle.card.specs.declared.Card.{Card}
use Rattle.card.specs.Values.{soil_in, dust_in}
use Rattle.cardsite.specs.Over.{over_ages, over_single, over_limit}
use Rattle.cardsite.specs.Fields.{given, media_fields, row_fields, row_scenario}
use Rattle.cardsite.specs.Laws.{RowFits, RowWithin}
use Rattle.cardsite.proofs.Limited.{within}

-- a value put in, where it is given
ages_fit : {fields : List ℕ} → Fits fields → (g : ℕ) → g < groups → (v : Option ℕ) → over_ages g v ≡ false → Fits (given (every_age g) v fields)
ages_fit was g h None e = was
ages_fit {fields} was g h (Some n) e = every_age_fits fields was g h n (ltb-false (by_age limits g 0) n e)

single_fit : {fields : List ℕ} → Fits fields → (k : ℕ) → Plain k → (v : Option ℕ) → over_single k v ≡ false → Fits (given (singly k) v fields)
single_fit was k h None e = was
single_fit {fields} was k h (Some n) e = singly_fits fields was k h n (ltb-false (single limits k) n e)

-- the single fields that a row puts are plain: they stand before the water shares, or after them and before saturation
before_shares : (k : ℕ) → k < first_draw_share_at → Plain k
before_shares k h =
    record { one = omega arith; no_first_draw = λ e. omega arith; no_fountain = λ e. omega arith; no_saturation = λ e. omega arith }

after_shares : (k : ℕ) → fountain_share_at < k → k < saturation_at → Plain k
after_shares k h g =
    record { one = omega arith; no_first_draw = λ e. omega arith; no_fountain = λ e. omega arith; no_saturation = λ e. omega arith }

module _ (c : Card) (passed : over_limit c ≡ false) (fields : List ℕ) (was : Fits fields) where
  media_fit : Fits (media_fields c fields)
  unfolding media_fields
  media_fit =
      let w = within c passed in
      single_fit
      (ages_fit
      (ages_fit
      (ages_fit (ages_fit was soil_group (omega arith) (soil_in c) w.soil) dust_group (omega arith) (dust_in c) w.dust)
      air_group (omega arith) c.air w.air)
      alternate_group (omega arith) c.other w.other)
      constant_at (before_shares constant_at (omega arith)) c.water w.water

  row_fit : Fits (row_fields c fields)
  unfolding row_fields
  row_fit =
      let w = within c passed in
      let soil = single_fit media_fit absorbed_soil_at (after_shares absorbed_soil_at (omega arith) (omega arith)) c.abssoil w.abssoil in
      let dust = single_fit soil absorbed_dust_at (after_shares absorbed_dust_at (omega arith) (omega arith)) c.absdust w.absdust in
      let dust-mode = singly_fits _ dust dust_mode_at (before_shares dust_mode_at (omega arith)) 0 (omega arith) in
      singly_fits _ dust-mode water_mode_at (before_shares water_mode_at (omega arith)) 0 (omega arith)

pub row_fits_lem : RowFits
row_fits_lem c passed fields was = row_fit c passed fields was

pub row_within : RowWithin
unfolding row_scenario scenario_of
row_within c passed s was places age h = exposure_within (row_scenario c s) (row_fit c passed s.fields was).fit places age h
