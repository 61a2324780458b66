-- Intakes of an exposure that 9 lets pass: each is at most 10^9.
-- Assumes nothing.
use mathlib.Core.Path.{◌≡◌}
use Prim.Native.Nat.{ℕ, ◌≤◌, ◌<◌}
use Rattle.site.specs.Fields.{at}
use Rattle.intake.specs.Intake.{intakes_of}
use Rattle.intake.specs.declared.passed.PassedIntakes.{PassedIntakes}
use Rattle.intake.proofs.Refusal9.{air_most, intake_most}
use Rattle.uptake.specs.Uptake.{percent_of, absorbable}

module _ (p : PassedIntakes) where
  pub passed_air : p.intakes.air ≤ 1_000_000_000
  unfolding intakes_of
  passed_air = rw p.own (air_most p.exposure.now.within p.passed)

  pub passed_intake : (medium : ℕ) → medium < 5 → at p.intakes.media medium ≤ 1_000_000_000
  passed_intake medium l = rw p.own (intake_most p.exposure.now.within p.passed medium l)

  pub absorbable_is : (medium : ℕ) → percent_of (at p.exposure.now.exposure.absorbed medium) (at p.intakes.media medium) ≡ absorbable p.exposure.now.exposure medium
  unfolding absorbable
  absorbable_is medium = rw p.own
