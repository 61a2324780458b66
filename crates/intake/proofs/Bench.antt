-- The worked dust, by computing the definitions.
-- Assumes nothing.
use mathlib.Core.Path.{refl}
use Rattle.numbers.specs.Sums.{sum_to}
use Rattle.site.specs.DustPlaces.{shares_away}
use Rattle.intake.specs.Intake.{dust_concentration, dust_part, dust_intake}
use Rattle.intake.specs.Bench.{dusty, WorkedDust}

pub worked_dust : WorkedDust
unfolding dusty sum_to shares_away dust_concentration dust_part dust_intake
worked_dust =
    record {
      none = refl;
      daycare_parts = refl;
      daycare = refl;
      multiple_source = refl;
      five_parts = refl;
      five = refl;
      six_floors = refl;
      no_house = refl;
    }
