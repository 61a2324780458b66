-- Figures that are not over their site limits.
-- Assumes nothing.
use mathlib.Core.Path.{◌≡◌, refl, sym, ◌∙◌}
use mathlib.Core.Bool.{Bool, true, false, ◌||◌, true≢false}
use Prim.Native.Nat.{ℕ, ◌<◌}
use native.Mathlib.Omega.{arith}
use borrow.Author.Tests.{ltb-false}
use Rattle.site.specs.Fields.{field_count, at, limits, by_age, air_group, soil_group, dust_group, alternate_group, constant_at, absorbed_dust_at, absorbed_soil_at}
use Rattle.site.proofs.FieldTests.{limit_small}
use Rattle.std.specs.Prelude.{Option, None, Some}
use Rattle.card.specs.declared.Card.{Card}
use Rattle.card.specs.Values.{or_other, soil_in, dust_in}
use Rattle.cardsite.specs.Over.{over, over_ages, over_single, over_limit}

-- a figure within its limit is a 32-bit number
pub within_small : (place n : ℕ) → place < field_count → over (at limits place) (Some n) ≡ false → n < 4_294_967_296
within_small place n h e = omega (arith, limit_small place h, ltb-false (at limits place) n e)

-- soil and dust have one limit, so a copied one is within it
soil_as_dust : (v : Option ℕ) → over_ages soil_group v ≡ over_ages dust_group v
unfolding limits
soil_as_dust v = refl

or_within : (limit : ℕ) (v w : Option ℕ) → over limit v ≡ false → over limit w ≡ false → over limit (or_other v w) ≡ false
or_within limit None w a b = b
or_within limit (Some n) w a b = a

-- the figures of a card that passes its 7, each by itself
pub record OwnWithin (c : Card) : Type 0 where
  pub soil : over_ages soil_group c.soil ≡ false
  pub dust : over_ages dust_group c.dust ≡ false
  pub water : over_single constant_at c.water ≡ false
  pub air : over_ages air_group c.air ≡ false
  pub other : over_ages alternate_group c.other ≡ false
  pub abssoil : over_single absorbed_soil_at c.abssoil ≡ false
  pub absdust : over_single absorbed_dust_at c.absdust ≡ false

-- and as they are put over a site file, where a missing soil or dust copies the other
pub record Within (c : Card) : Type 0 where
  pub soil : over_ages soil_group (soil_in c) ≡ false
  pub dust : over_ages dust_group (dust_in c) ≡ false
  pub water : over_single constant_at c.water ≡ false
  pub air : over_ages air_group c.air ≡ false
  pub other : over_ages alternate_group c.other ≡ false
  pub abssoil : over_single absorbed_soil_at c.abssoil ≡ false
  pub absdust : over_single absorbed_dust_at c.absdust ≡ false

-- one of two tests holds, or neither
pub or_none : (a b : Bool) → a || b ≡ false → (a ≡ false) × (b ≡ false)
or_none false b e = (refl, e)
or_none true b e = absurd (true≢false e)

module _ (c : Card) where
  -- one of the first figures is over its limit, up to soil, dust, water, air, other, abssoil
  abbrev pub up_to_soil : Bool
  up_to_soil = over_ages soil_group c.soil

  abbrev pub up_to_dust : Bool
  up_to_dust = up_to_soil || over_ages dust_group c.dust

  abbrev pub up_to_water : Bool
  up_to_water = up_to_dust || over_single constant_at c.water

  abbrev pub up_to_air : Bool
  up_to_air = up_to_water || over_ages air_group c.air

  abbrev pub up_to_other : Bool
  up_to_other = up_to_air || over_ages alternate_group c.other

  abbrev pub up_to_abssoil : Bool
  up_to_abssoil = up_to_other || over_single absorbed_soil_at c.abssoil

  -- none is
  pub own_within : over_limit c ≡ false → OwnWithin c
  unfolding over_limit
  own_within passed =
      let absdust = or_none up_to_abssoil (over_single absorbed_dust_at c.absdust) passed in
      let abssoil = or_none up_to_other (over_single absorbed_soil_at c.abssoil) absdust.0 in
      let other = or_none up_to_air (over_ages alternate_group c.other) abssoil.0 in
      let air = or_none up_to_water (over_ages air_group c.air) other.0 in
      let water = or_none up_to_dust (over_single constant_at c.water) air.0 in
      let both = or_none up_to_soil (over_ages dust_group c.dust) water.0 in
      record {
        soil = both.0;
        dust = both.1;
        water = water.1;
        air = air.1;
        other = other.1;
        abssoil = abssoil.1;
        absdust = absdust.1;
      }

  pub within : over_limit c ≡ false → Within c
  within passed =
      let own = own_within passed in
      record {
        soil = or_within (by_age limits soil_group 0) c.soil c.dust own.soil (soil_as_dust c.dust ∙ own.dust);
        dust = or_within (by_age limits dust_group 0) c.dust c.soil own.dust (sym (soil_as_dust c.soil) ∙ own.soil);
        water = own.water;
        air = own.air;
        other = own.other;
        abssoil = own.abssoil;
        absdust = own.absdust;
      }
