-- Where no share is above 0, a child takes in and takes up the same without the figures of the places.
-- Assumes nothing.
use mathlib.Core.Path.{◌≡◌, refl, sym, ap, ◌∙◌}
use mathlib.Core.List.{List}
use Prim.Native.Nat.{ℕ, ◌-◌, ◌*◌, ◌/◌}
use Rattle.std.proofs.lemmas.List.{get_or-replicate}
use Rattle.numbers.specs.Choice.{tab}
use Rattle.numbers.specs.Sums.{sum_to}
use Rattle.site.specs.declared.DustSource.{DustSource}
use Rattle.site.specs.declared.DustSource.TheVariants.{Given, MultipleSource}
use Rattle.site.specs.declared.WaterSource.{WaterSource}
use Rattle.site.specs.declared.WaterSource.TheVariants.{Constant, ThreeSources}
use Rattle.site.specs.declared.dust_places.DustPlace.{DustPlace}
use Rattle.site.specs.declared.Scenario.{Scenario}
use Rattle.site.specs.DustPlaces.{place_count, no_place, no_places}
use Rattle.site.specs.Limits.{AtHome}
use Rattle.site.specs.Scenario.{without_places}
use Rattle.exposure.specs.declared.Exposure.{Exposure}
use Rattle.exposure.specs.Exposure.{exposure_at}
use Rattle.intake.specs.Intake.{air_intake, mixed_water, water_intake_by, water_intake, soil_intake, dust_concentration_by, dust_concentration, dust_intake, intakes_of, refusal_of, intake_refusal}
use Rattle.intake.proofs.Home.{home_dust}
use Rattle.uptake.specs.Age.{age_of}
use Rattle.uptake.specs.Uptake.{saturation_of, absorbable, absorbable_total, passive_uptake, active_uptake, medium_uptake, air_uptake, day_uptake}
use Rattle.uptake.specs.Routes.{day_routes}
use Rattle.child.specs.Month.{month_uptake}
use Rattle.routes.specs.Sums.{month_routes}

-- zero shares
at_no_places : AtHome no_places
at_no_places k h = ap (λ (p : DustPlace). p.share) (get_or-replicate place_count k no_place no_place h)

module _ (p : Scenario) (home : AtHome p.dust_places) where
  -- at an age, with the figures and without
  module _ (age : ℕ) where
    abbrev with_figures : Exposure
    with_figures = exposure_at p age

    abbrev without : Exposure
    without = exposure_at (without_places p) age

    same_water : (w : WaterSource) → water_intake_by w without ≡ water_intake_by w with_figures
    unfolding exposure_at mixed_water
    same_water Constant = refl
    same_water ThreeSources = refl

    same_concentration : (d : DustSource) → dust_concentration_by d without ≡ dust_concentration_by d with_figures
    unfolding exposure_at
    same_concentration Given = refl
    same_concentration MultipleSource = refl

    same_dust : dust_intake without ≡ dust_intake with_figures
    unfolding exposure_at dust_concentration
    same_dust =
        home_dust without at_no_places
        ∙ ap (λ (n : ℕ). n * with_figures.eaten * (100 - with_figures.weight_soil) / 100) (same_concentration p.dust_source)
        ∙ sym (home_dust with_figures home)

    same_intakes : intakes_of without ≡ intakes_of with_figures
    unfolding intakes_of exposure_at air_intake water_intake soil_intake
    same_intakes = rw (same_dust, same_water p.water_source) refl

    -- so 9, T and its routes, with any body weights
    pub same_nine : intake_refusal without ≡ intake_refusal with_figures
    unfolding intake_refusal
    same_nine = ap refusal_of same_intakes

    module _ (weight weight24 : ℕ) where
      same_day : day_uptake without weight weight24 ≡ day_uptake with_figures weight weight24
      unfolding sum_to exposure_at day_uptake medium_uptake active_uptake passive_uptake absorbable_total absorbable saturation_of air_uptake air_intake
      same_day = rw same_intakes refl

      same_routes : day_routes without weight weight24 ≡ day_routes with_figures weight weight24
      unfolding tab sum_to exposure_at day_routes active_uptake passive_uptake absorbable_total absorbable saturation_of air_uptake air_intake
      same_routes = rw same_intakes refl

  -- and those of a month
  module _ (table : List ℕ) (m : ℕ) where
    pub same_uptake : month_uptake (without_places p) table m ≡ month_uptake p table m
    unfolding month_uptake
    same_uptake = same_day (age_of m) _ _

    pub same_month_routes : month_routes (without_places p) table m ≡ month_routes p table m
    unfolding month_routes
    same_month_routes = same_routes (age_of m) _ _
