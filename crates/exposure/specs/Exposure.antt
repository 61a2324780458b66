-- What a scenario exposes a child of one age to.
-- Assumes nothing.
use Rattle.std.specs.Prelude.{ℕ, ◌+◌, List, [], ◌∷◌}
use Rattle.site.specs.declared.DustSource.{DustSource}
use Rattle.site.specs.declared.WaterSource.{WaterSource}
use Rattle.site.specs.declared.dust_places.DustPlace.{DustPlace}
use Rattle.site.specs.declared.Scenario.{Scenario}
use Rattle.site.specs.Fields.{at, by_age, single, air_group, soil_group, dust_group, alternate_group, constant_at, absorbed_at, first_draw_share_in, fountain_share_in, saturation_in}
use Rattle.exposure.specs.declared.Exposure.{Exposure}

-- the percentages of the five eaten media, diet, water, dust, soil, alternate: five single fields from k
abbrev pub percentages_from : List ℕ → ℕ → List ℕ
percentages_from fields k = single fields k ∷ single fields (k + 1) ∷ single fields (k + 2) ∷ single fields (k + 3) ∷ single fields (k + 4) ∷ []

-- the exposure of an age from 0 to 6, from fields, places, diets and sources; the places are the same at every age
abbrev pub exposure_from : List ℕ → List DustPlace → List ℕ → DustSource → WaterSource → ℕ → Exposure
exposure_from fields places diets dustSource waterSource age =
    record {
      air = by_age fields air_group age;
      hours_out = by_age fields 1 age;
      breathing = by_age fields 2 age;
      air_absorption = by_age fields 3 age;
      diet = at diets age;
      water = by_age fields 5 age;
      soil = by_age fields soil_group age;
      dust = by_age fields dust_group age;
      dust_places = places;
      eaten = by_age fields 8 age;
      alternate = by_age fields alternate_group age;
      indoor = single fields 0;
      weight_soil = single fields 1;
      contribution = single fields 2;
      air_to_dust = single fields 3;
      dust_source = dustSource;
      water_source = waterSource;
      constant = single fields constant_at;
      flushed = single fields 7;
      first_draw = single fields 8;
      fountain = single fields 9;
      first_draw_share = first_draw_share_in fields;
      fountain_share = fountain_share_in fields;
      absorbed = percentages_from fields absorbed_at;
      passive = percentages_from fields 17;
      saturation = saturation_in fields;
    }

-- the exposure of an age from 0 to 6
unfoldable pub exposure_at : Scenario → ℕ → Exposure
exposure_at s age = exposure_from s.fields s.dust_places s.diets s.dust_source s.water_source age
