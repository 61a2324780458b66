-- What a row makes of an exposure.
-- Assumes nothing.
use Rattle.std.specs.Prelude.{ℕ, [], ◌∷◌, Option, None, Some}
use Rattle.site.specs.declared.DustSource.TheVariants.{Given}
use Rattle.site.specs.declared.WaterSource.TheVariants.{Constant}
use Rattle.site.specs.Fields.{at}
use Rattle.exposure.specs.declared.Exposure.{Exposure}
use Rattle.card.specs.declared.Card.{Card}
use Rattle.card.specs.Values.{soil_in, dust_in}

-- a figure that the row gives, or the site file's own at a gap
abbrev pub or_own : Option ℕ → ℕ → ℕ
or_own None own = own
or_own (Some n) own = n

-- what a row makes of an exposure, whatever its age: its figures, the two modes 0, and all else as it was
abbrev pub row_exposure : Card → Exposure → Exposure
row_exposure c e =
    record {
      air = or_own c.air e.air;
      hours_out = e.hours_out;
      breathing = e.breathing;
      air_absorption = e.air_absorption;
      diet = e.diet;
      water = e.water;
      soil = or_own (soil_in c) e.soil;
      dust = or_own (dust_in c) e.dust;
      dust_places = e.dust_places;
      eaten = e.eaten;
      alternate = or_own c.other e.alternate;
      indoor = e.indoor;
      weight_soil = e.weight_soil;
      contribution = e.contribution;
      air_to_dust = e.air_to_dust;
      dust_source = Given;
      water_source = Constant;
      constant = or_own c.water e.constant;
      flushed = e.flushed;
      first_draw = e.first_draw;
      fountain = e.fountain;
      first_draw_share = e.first_draw_share;
      fountain_share = e.fountain_share;
      absorbed =
          at e.absorbed 0  -- diet, water, dust, soil, alternate
          ∷ at e.absorbed 1
          ∷ or_own c.absdust (at e.absorbed 2)
          ∷ or_own c.abssoil (at e.absorbed 3)
          ∷ at e.absorbed 4
          ∷ [];
      passive = e.passive;
      saturation = e.saturation;
    }
