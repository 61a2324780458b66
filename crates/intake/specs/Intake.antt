-- What a child takes in a day, in pg (document 01, "Intake and uptake", E-1 to E-11; dust in six parts, E-12, by document 02, [7]), and refusal 9 (with a
-- diet, document 02, [1]).
-- Assumes nothing.
use Rattle.std.specs.Prelude.{ℕ, ◌+◌, ◌-◌, ◌*◌, ◌/◌, Bool, ◌&&◌, [], ◌∷◌, leb}
use Rattle.numbers.specs.Choice.{unless}
use Rattle.numbers.specs.Sums.{sum_to}
use Rattle.site.specs.declared.DustSource.{DustSource}
use Rattle.site.specs.declared.DustSource.TheVariants.{Given, MultipleSource}
use Rattle.site.specs.declared.WaterSource.{WaterSource}
use Rattle.site.specs.declared.WaterSource.TheVariants.{Constant, ThreeSources}
use Rattle.exposure.specs.declared.Exposure.{Exposure}
use Rattle.site.specs.Fields.{at}
use Rattle.site.specs.DustPlaces.{place_count, share_of, figure_of, shares_away}
use Rattle.intake.specs.declared.Intakes.{Intakes}

-- air (E-1 to E-3): floor(air × (100h + (24−h) × indoor) × litres / 2,400,000), h the hours out
unfoldable pub air_intake : Exposure → ℕ
air_intake e = e.air * (100 * e.hours_out + (24 - e.hours_out) * e.indoor) * e.breathing / 2_400_000

-- flushed × (100−f−g) + first draw × f + fountain × g, f and g the two shares (E-6b; 100−f−g by E-7), in hundredths
unfoldable pub mixed_water : Exposure → ℕ
mixed_water e =
    e.flushed * (100 - e.first_draw_share - e.fountain_share)
    + e.first_draw * e.first_draw_share
    + e.fountain * e.fountain_share

-- water (E-6a, E-6b): amount × constant; or the three sources by their shares
abbrev pub water_intake_by : WaterSource → Exposure → ℕ
water_intake_by Constant e = e.water * e.constant
water_intake_by ThreeSources e = e.water * mixed_water e / 100

unfoldable pub water_intake : Exposure → ℕ
water_intake e = water_intake_by e.water_source e

-- soil (E-8): floor(soil × eaten × weight_soil / 100)
unfoldable pub soil_intake : Exposure → ℕ
soil_intake e = e.soil * e.eaten * e.weight_soil / 100

-- the house's dust: the given figure; or multiple source (E-11), floor((10 × contribution × soil + factor × air) / 1000)
abbrev pub dust_concentration_by : DustSource → Exposure → ℕ
dust_concentration_by Given e = e.dust
dust_concentration_by MultipleSource e = (10 * e.contribution * e.soil + e.air_to_dust * e.air) / 1000

unfoldable pub dust_concentration : Exposure → ℕ
dust_concentration e = dust_concentration_by e.dust_source e

-- the house gets 100 less the five shares, all subtracted (E-9.5)
abbrev pub house_share : Exposure → ℕ
house_share e = 100 - shares_away e.dust_places

-- a part of the dust, by a figure and a share (E-9b with E-10; E-12): floor(figure × eaten × (100−weight_soil) × share / 10,000)
unfoldable pub dust_part : Exposure → ℕ → ℕ → ℕ
dust_part e figure share = figure * e.eaten * (100 - e.weight_soil) * share / 10_000

-- the house's, and that of place k: work, school, daycare, second home, other (E-12a to E-12e)
abbrev pub house_dust : Exposure → ℕ
house_dust e = dust_part e (dust_concentration e) (house_share e)

abbrev pub place_dust : Exposure → ℕ → ℕ
place_dust e k = dust_part e (figure_of e.dust_places k) (share_of e.dust_places k)

-- dust (E-9 with E-12; document 02, [7]): the house's part and the five, whatever the dust mode
unfoldable pub dust_intake : Exposure → ℕ
dust_intake e = house_dust e + sum_to place_count (place_dust e)

-- the five eaten media, in the order of the site file's percentages
abbrev pub diet_medium : ℕ
diet_medium = 0

abbrev pub water_medium : ℕ
water_medium = 1

abbrev pub dust_medium : ℕ
dust_medium = 2

abbrev pub soil_medium : ℕ
soil_medium = 3

-- all intakes of an exposure: diet, the site file's or that of foods, and alternate are given
unfoldable pub intakes_of : Exposure → Intakes
intakes_of e =
    record {
      air = air_intake e;
      media = e.diet ∷ water_intake e ∷ dust_intake e ∷ soil_intake e ∷ e.alternate ∷ [];
    }

-- the intake of an eaten medium
abbrev pub intake_of : Exposure → ℕ → ℕ
intake_of e medium = at (intakes_of e).media medium

-- an intake is at most 10^9
abbrev pub intake_fits : ℕ → Bool
intake_fits intake = leb intake 1_000_000_000

-- an air, water, soil or dust intake over 10^9: 9; a diet over 10^9 joins it
abbrev pub intakes_fit : Intakes → Bool
intakes_fit i =
    intake_fits i.air
    && (intake_fits (at i.media water_medium)
    && (intake_fits (at i.media soil_medium)
    && (intake_fits (at i.media dust_medium)
    && intake_fits (at i.media diet_medium))))

unfoldable pub refusal_of : Intakes → ℕ
refusal_of i = unless (intakes_fit i) 9

unfoldable pub intake_refusal : Exposure → ℕ
intake_refusal e = refusal_of (intakes_of e)
