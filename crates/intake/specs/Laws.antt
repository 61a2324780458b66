-- The laws of the dust in six parts, and of refusal 9.
-- Assumes nothing.
use Rattle.std.specs.Prelude.{◌≡◌, ◌≤◌, ◌-◌, ◌*◌, ◌/◌}
use Rattle.site.specs.Limits.{AtHome}
use Rattle.exposure.specs.declared.Exposure.{Exposure}
use Rattle.intake.specs.Intake.{air_intake, water_intake, soil_intake, dust_concentration, dust_intake, intake_refusal}

-- where no share is above 0, as in edition 1, the dust is document 01's (E-9), whatever the figures of the places
abbrev pub HomeLaw : Type 0
HomeLaw = (e : Exposure) → AtHome e.dust_places → dust_intake e ≡ dust_concentration e * e.eaten * (100 - e.weight_soil) / 100

-- an air, water, soil and dust intake that 9 lets pass
pub record FourPassed (e : Exposure) : Type 0 where
  pub air : air_intake e ≤ 1_000_000_000
  pub water : water_intake e ≤ 1_000_000_000
  pub soil : soil_intake e ≤ 1_000_000_000
  pub dust : dust_intake e ≤ 1_000_000_000

-- and what passes with the diet
pub record Passed (e : Exposure) : Type 0 where
  pub four : FourPassed e
  pub diet : e.diet ≤ 1_000_000_000

-- 9 is answered, and no other number, if and only if what is to pass does not
pub record RefusalLaw (e : Exposure) (ToPass : Type 0) : Type 0 where
  pub passes : ToPass → intake_refusal e ≡ 0
  pub passed : intake_refusal e ≡ 0 → ToPass
  pub nine : (ToPass → ⊥) → intake_refusal e ≡ 9

-- the four are to pass and the diet too; and the four alone if the diet is at most 10^9, as a site file's own always is
abbrev pub NineLaw : Type 0
NineLaw = (e : Exposure) → RefusalLaw e (Passed e)

abbrev pub FourAlone : Type 0
FourAlone = (e : Exposure) → e.diet ≤ 1_000_000_000 → RefusalLaw e (FourPassed e)
