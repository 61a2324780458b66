-- Worked dust in six parts, of the definitions themselves (document 02, [7]).
-- Assumes nothing.
use Rattle.std.specs.Prelude.{ℕ, ◌≡◌, List, [], ◌∷◌, replicate}
use Rattle.site.specs.declared.DustSource.{DustSource}
use Rattle.site.specs.declared.DustSource.TheVariants.{Given, MultipleSource}
use Rattle.site.specs.declared.WaterSource.TheVariants.{Constant}
use Rattle.site.specs.declared.dust_places.DustPlace.{DustPlace}
use Rattle.site.specs.DustPlaces.{no_place, no_places}
use Rattle.exposure.specs.declared.Exposure.{Exposure}
use Rattle.intake.specs.Intake.{house_dust, place_dust, dust_intake}

-- a child of 87 or 100 mg a day, weight_soil 45, and a given dust, or the multiple source's 150,000: 70 hundredths of soil 200,000, and factor 100 of
-- air 100,000; all else 0
unfoldable pub dusty : DustSource → ℕ → ℕ → List DustPlace → Exposure
dusty source eaten dust places =
    record {
      air = 100_000;
      hours_out = 0;
      breathing = 0;
      air_absorption = 0;
      diet = 0;
      water = 0;
      soil = 200_000;
      dust = dust;
      dust_places = places;
      eaten = eaten;
      alternate = 0;
      indoor = 0;
      weight_soil = 45;
      contribution = 70;
      air_to_dust = 100;
      dust_source = source;
      water_source = Constant;
      constant = 0;
      flushed = 0;
      first_draw = 0;
      fountain = 0;
      first_draw_share = 0;
      fountain_share = 0;
      absorbed = replicate 5 0;
      passive = replicate 5 0;
      saturation = 1_000_000;
    }

abbrev pub place : ℕ → ℕ → DustPlace
place share dust = record { share = share; dust = dust }

-- a daycare alone; all five; and five with shares 1 to 5
abbrev pub daycare_alone : List DustPlace
daycare_alone = no_place ∷ no_place ∷ place 25 1_000_001 ∷ no_place ∷ no_place ∷ []

abbrev pub all_five : List DustPlace
all_five = place 10 333_333 ∷ place 20 77_777 ∷ place 25 1_000_001 ∷ place 5 12_345 ∷ place 7 1 ∷ []

abbrev pub one_to_five : List DustPlace
one_to_five = place 1 99_999 ∷ place 2 88_888 ∷ place 3 77_777 ∷ place 4 66_666 ∷ place 5 55_555 ∷ []

-- and five whose shares are 100 together, so that the house has none
abbrev pub worked_places : List DustPlace
worked_places = place 10 333_333 ∷ place 20 77_777 ∷ place 25 1_000_001 ∷ place 5 12_345 ∷ place 40 50_000_000 ∷ []

-- the parts of a dust: the house's, and the five
abbrev pub parts : Exposure → List ℕ
parts e = house_dust e ∷ place_dust e 0 ∷ place_dust e 1 ∷ place_dust e 2 ∷ place_dust e 3 ∷ place_dust e 4 ∷ []

pub record WorkedDust : Type 0 where
  -- no shares: document 01's bench figure
  pub none : dust_intake (dusty Given 100 150_000 no_places) ≡ 8_250_000
  -- daycare 25 at 1,000,001, by a given dust and by the multiple source
  pub daycare_parts : parts (dusty Given 100 150_000 daycare_alone) ≡ 6_187_500 ∷ 0 ∷ 0 ∷ 13_750_013 ∷ 0 ∷ 0 ∷ []
  pub daycare : dust_intake (dusty Given 100 150_000 daycare_alone) ≡ 19_937_513
  pub multiple_source : dust_intake (dusty MultipleSource 100 0 daycare_alone) ≡ 19_937_513
  -- all five
  pub five_parts : parts (dusty Given 100 150_000 all_five) ≡ 2_722_500 ∷ 1_833_331 ∷ 855_547 ∷ 13_750_013 ∷ 33_948 ∷ 3 ∷ []
  pub five : dust_intake (dusty Given 100 150_000 all_five) ≡ 19_195_342
  -- 87 mg, house 150,001, shares 1 to 5: six floors, where one floor of the sum would give 6,605,993
  pub six_floors : dust_intake (dusty Given 87 150_001 one_to_five) ≡ 6_605_990
  -- shares of 100: the house has no part
  pub no_house : house_dust (dusty Given 100 150_000 worked_places) ≡ 0
