-- The days of `specs/Witness.antt`, by computing.
-- Assumes nothing.
use mathlib.Core.Path.{refl}
use Rattle.numbers.specs.Sums.{sum_to}
use Rattle.uptake.specs.Uptake.{percent_of, active_part}
use Rattle.uptake.specs.Media.{passive_from, active_from, medium_from, day_from}
use Rattle.sensitivity.specs.Witness.{Reached}

pub reached : Reached
unfolding day_from medium_from active_from active_part passive_from percent_of sum_to
reached = record { diet = refl; water = refl; dust = refl; soil = refl; alternate = refl; gain = refl; passive = refl }
