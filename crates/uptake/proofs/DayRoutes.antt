-- The day's routes, put together from what the calls answer.
-- Assumes nothing.
use mathlib.Core.Path.{◌≡◌, ap, ◌∙◌}
use mathlib.Core.List.{List}
use Prim.Native.Nat.{ℕ}
use Rattle.numbers.specs.Choice.{tab}
use Rattle.intake.specs.declared.Intakes.{Intakes}
use Rattle.intake.specs.declared.passed.PassedIntakes.{PassedIntakes}
use Rattle.intake.specs.Intake.{intakes_of}
use Rattle.uptake.specs.declared.Routes.{Routes}
use Rattle.uptake.specs.Uptake.{percent_of, saturation_of, passive_uptake, active_uptake, air_uptake}
use Rattle.uptake.specs.Routes.{day_routes}
use Rattle.uptake.specs.Internal.{active_by}

module _ (p : PassedIntakes) (weight weight24 : ℕ) {sat air : ℕ} {passive active : List ℕ} where
  pub routes_are : sat ≡ saturation_of p.exposure.now.exposure weight weight24
      → passive ≡ tab 5 (passive_uptake p.exposure.now.exposure)
      → active ≡ tab 5 (active_by p.exposure.now.exposure sat)
      → air ≡ percent_of p.exposure.now.exposure.air_absorption p.intakes.air
      → ◌≡◌ {A = Routes} (record { passive = passive; active = active; air = air }) (day_routes p.exposure.now.exposure weight weight24)
  unfolding day_routes active_uptake air_uptake intakes_of
  routes_are saturation first second breathed =
      let e = p.exposure.now.exposure in
      let by_active : active ≡ tab 5 (active_uptake e weight weight24) = second ∙ ap (λ (s : ℕ). tab 5 (active_by e s)) saturation in
      let by_air : air ≡ air_uptake e = breathed ∙ ap (λ (x : Intakes). percent_of e.air_absorption x.air) p.own in
      rw (first, by_active, by_air)
