-- The bench figures of document 01, all twelve rows in their order, of the definitions themselves.
-- Assumes nothing.
use Rattle.std.specs.Prelude.{ℕ, ◌≡◌, List, [], ◌∷◌, map}
use Rattle.block.specs.Block.{check_of}
use Rattle.block.specs.Writer.{body_of}
use Rattle.site.specs.declared.DustSource.TheVariants.{MultipleSource}
use Rattle.site.specs.declared.WaterSource.TheVariants.{ThreeSources}
use Rattle.exposure.specs.declared.Exposure.{Exposure}
use Rattle.site.specs.declared.edition.Edition.TheVariants.{First}
use Rattle.site.specs.DustPlaces.{no_places}
use Rattle.site.specs.Site.{site_form}
use Rattle.row.specs.declared.Rates.{Rates}
use Rattle.row.specs.declared.Row.{Row}
use Rattle.row.specs.Row.{unit}
use Rattle.uptake.specs.Age.{age_of}
use Rattle.intake.specs.Intake.{air_intake, water_intake, soil_intake, dust_concentration, dust_intake, diet_medium}
use Rattle.uptake.specs.Uptake.{saturation_of, absorbable, absorbable_total, medium_uptake}
use Rattle.kinetics.specs.Step.{plasma, amount, solved_plasma, exits, next_lead}
use Rattle.blood.specs.Birth.{birth_lead}
use Rattle.blood.specs.Blood.{blood_of}
use Rattle.steps.specs.Steps.{steps_a_day, day_shares}

-- an exposure with the figures of the first six rows; of the eaten media the diet alone is absorbed, and wholly
unfoldable pub bench_exposure : Exposure
bench_exposure =
    record {
      air = 100_000;
      hours_out = 2;
      breathing = 4_000;
      air_absorption = 32;
      diet = 2_700_000;
      water = 200;
      soil = 200_000;
      dust = 0;
      dust_places = no_places;
      eaten = 100;
      alternate = 0;
      indoor = 30;
      weight_soil = 45;
      contribution = 70;
      air_to_dust = 100;
      dust_source = MultipleSource;
      water_source = ThreeSources;
      constant = 0;
      flushed = 1_000;
      first_draw = 4_000;
      fountain = 10_000;
      first_draw_share = 50;
      fountain_share = 15;
      absorbed = 100 ∷ 0 ∷ 0 ∷ 0 ∷ 0 ∷ [];
      passive = 20 ∷ 20 ∷ 20 ∷ 20 ∷ 20 ∷ [];
      saturation = 24_300_000;
    }

-- a body weight, the same in the month's row and in row 24, so that SAT is the saturation
abbrev pub bench_weight : ℕ
bench_weight = 12_000

-- au = D, a1 = 1, all else 0; and P 9
unfoldable pub bench_rates : Rates
bench_rates =
    record {
      out = 1 ∷ 0 ∷ 0 ∷ 0 ∷ 0 ∷ 0 ∷ [];
      urine = unit;
      back = 0 ∷ 0 ∷ 0 ∷ 0 ∷ 0 ∷ 0 ∷ [];
      faeces = 0;
      skin = 0;
    }

abbrev pub bench_lead : List ℕ
bench_lead = 9 ∷ 0 ∷ 0 ∷ 0 ∷ 0 ∷ 0 ∷ 0 ∷ []

-- kidney 20 g, VP 1,000, VB 2,000
unfoldable pub bench_row : Row
bench_row =
    record {
      blood_volume = 2_000;
      plasma_volume = 1_000;
      body_weight = bench_weight;
      kidney = 20;
      liver = 0;
      other = 0;
      trabecular = 0;
      cortical = 0;
      rates = bench_rates;
    }

-- the place of the kidney among the six compartments beside plasma
abbrev pub kidney_at : ℕ
kidney_at = 2

pub record BenchFigures : Type 0 where
  -- soil 200,000, 100 mg, 45 %
  pub soil : soil_intake bench_exposure ≡ 9_000_000
  -- multiple source 70, soil 200,000, factor 100, air 100,000
  pub multiple_source : dust_concentration bench_exposure ≡ 150_000
  -- that dust, 100 mg, weight_soil 45
  pub dust : dust_intake bench_exposure ≡ 8_250_000
  -- air 100,000, 2 h, indoor 30, 4,000 L
  pub air : air_intake bench_exposure ≡ 143_333
  -- water 1,000/4,000/10,000, shares 50 and 15, 200 mL
  pub water : water_intake bench_exposure ≡ 770_000
  -- q 2,700,000 alone (so A too), passive 20, SAT 24,300,000; then the uptake
  pub uptake :
      absorbable bench_exposure diet_medium
      ∷ absorbable_total bench_exposure
      ∷ saturation_of bench_exposure bench_weight bench_weight
      ∷ medium_uptake bench_exposure bench_weight bench_weight diet_medium
      ∷ []
      ≡ 2_700_000 ∷ 2_700_000 ∷ 24_300_000 ∷ 2_484_000 ∷ []
  -- T = 10
  pub shares : day_shares steps_a_day 10 ≡ 1 ∷ 2 ∷ 2 ∷ 1 ∷ 2 ∷ 2 ∷ []
  -- P 9, au = D, a1 = 1, all else 0: p, urine, new P
  pub step :
      solved_plasma bench_rates bench_lead 0 ∷ (exits bench_rates bench_lead 0).urine ∷ plasma (next_lead bench_rates bench_lead 0) ∷ []
      ≡ 4 ∷ 4 ∷ 5 ∷ []
  -- kidney 20 g, mother 1,000
  pub kidney : amount (birth_lead bench_row 1_000) kidney_at ≡ 180_200
  -- M1 25,000,000, P 1,000,000, VP 1,000, VB 2,000
  pub blood : blood_of bench_row (1_000_000 ∷ 25_000_000 ∷ 0 ∷ 0 ∷ 0 ∷ 0 ∷ 0 ∷ []) ≡ 12_703
  -- block of zeros, edition 1
  pub check : check_of (body_of (site_form First) []) ≡ 2
  -- months 12, 13, 84
  pub ages : map age_of (12 ∷ 13 ∷ 84 ∷ []) ≡ 0 ∷ 1 ∷ 6 ∷ []
