-- The bench figures, by computing the definitions.
-- Assumes nothing.
use mathlib.Core.Path.{refl}
use Rattle.numbers.specs.Sums.{sum_to}
use Rattle.block.specs.Block.{word_at, check_of}
use Rattle.block.specs.Writer.{le16, laid_by, body_with}
use Rattle.site.specs.DustPlaces.{shares_away}
use Rattle.uptake.specs.Age.{age_of}
use Rattle.intake.specs.Intake.{air_intake, mixed_water, water_intake, soil_intake, dust_concentration, dust_part, dust_intake, intakes_of}
use Rattle.uptake.specs.Uptake.{percent_of, saturation_of, absorbable, absorbable_total, passive_uptake, active_part, active_uptake, medium_uptake}
use Rattle.steps.specs.Share.{share_of}
use Rattle.kinetics.specs.Step.{compartment_divisor, returned, retained, inflow, divisor, solved_plasma, new_amount, urine_exit, compartment_exit, exits, new_plasma, next_lead}
use Rattle.blood.specs.Birth.{birth_blood, birth_organ, birth_lead}
use Rattle.blood.specs.Blood.{ecf_volume, plasma_part, blood_of}
use Rattle.steps.specs.Steps.{shares_from}
use Rattle.conservation.specs.Bench.{bench_exposure, bench_rates, bench_row, BenchFigures}

pub bench_figures : BenchFigures
unfolding bench_exposure bench_rates bench_row sum_to word_at check_of le16 laid_by body_with shares_from
    age_of air_intake mixed_water water_intake soil_intake dust_concentration shares_away dust_part dust_intake intakes_of
    percent_of saturation_of absorbable absorbable_total passive_uptake active_part active_uptake medium_uptake
    share_of compartment_divisor returned retained inflow divisor solved_plasma new_amount urine_exit compartment_exit exits new_plasma next_lead
    birth_blood birth_organ birth_lead ecf_volume plasma_part blood_of
bench_figures =
    record {
      soil = refl;
      multiple_source = refl;
      dust = refl;
      air = refl;
      water = refl;
      uptake = refl;
      shares = refl;
      step = refl;
      kidney = refl;
      blood = refl;
      check = refl;
      ages = refl;
    }
