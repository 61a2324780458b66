-- Refusal 9 by its tests, what it lets pass, and that it is from the input.
-- Assumes nothing.
use mathlib.Core.Path.{◌≡◌, refl, sym}
use mathlib.Core.Bool.{Bool, true, false}
use mathlib.Core.List.{List, [], ◌∷◌}
use Prim.Native.Nat.{ℕ, ◌≤◌, ◌<◌}
use native.Mathlib.Omega.{arith}
use borrow.Author.Tests.{le-leb, leb-true}
use Rattle.numbers.specs.Choice.{unless}
use Rattle.numbers.proofs.Every.{all_of, and_true, and_both}
use Rattle.numbers.proofs.Lists.{each_get_or}
use Rattle.numbers.proofs.Refusals.{unless_none, OfInput, unless_of_input}
use Rattle.site.specs.Fields.{at}
use Rattle.exposure.specs.declared.Exposure.{Exposure}
use Rattle.exposure.specs.Limits.{ExposureLimits}
use Rattle.intake.specs.declared.Intakes.{Intakes}
use Rattle.intake.specs.Intake.{air_intake, diet_medium, water_medium, dust_medium, soil_medium, intakes_of, intake_of, intake_fits, refusal_of, intake_refusal}
use Rattle.intake.specs.Laws.{Passed, NineLaw, FourAlone}

-- the tests of the intakes, in their order
abbrev intake_tests : Intakes → List Bool
intake_tests i =
    intake_fits i.air
    ∷ intake_fits (at i.media water_medium)
    ∷ intake_fits (at i.media soil_medium)
    ∷ intake_fits (at i.media dust_medium)
    ∷ intake_fits (at i.media diet_medium)
    ∷ []

-- they decide the refusal
refusal_by_tests : (i : Intakes) {t : Bool} → t ≡ all_of (intake_tests i) → unless t 9 ≡ refusal_of i
unfolding refusal_of
refusal_by_tests i e = rw e

-- what 9 tests of an exposure
all_pass : Exposure → Bool
all_pass e = all_of (intake_tests (intakes_of e))

refusal_is : (e : Exposure) → intake_refusal e ≡ unless (all_pass e) 9
unfolding intake_refusal all_pass
refusal_is e = sym (refusal_by_tests (intakes_of e) refl)

passed_of : (e : Exposure) → all_pass e ≡ true → Passed e
unfolding all_pass intakes_of
passed_of e t =
    let air = and_both _ _ t in
    let water = and_both _ _ air.1 in
    let soil = and_both _ _ water.1 in
    let dust = and_both _ _ soil.1 in
    record {
      four = record { air = leb-true _ _ air.0; water = leb-true _ _ water.0; soil = leb-true _ _ soil.0; dust = leb-true _ _ dust.0 };
      diet = leb-true _ _ dust.1;
    }

all_of_lem : (e : Exposure) → Passed e → all_pass e ≡ true
unfolding all_pass intakes_of
all_of_lem e p =
    let four = p.four in
    and_true _ _ (le-leb _ _ four.air)
    (and_true _ _ (le-leb _ _ four.water)
    (and_true _ _ (le-leb _ _ four.soil) (and_true _ _ (le-leb _ _ four.dust) (le-leb _ _ p.diet))))

-- a test that does not hold is answered with 9
nine_of : (t : Bool) → (t ≡ true → ⊥) → unless t 9 ≡ 9
unfolding unless
nine_of true h = absurd (h refl)
nine_of false h = refl

pub nine_law : NineLaw
unfolding unless
nine_law e =
    record {
      passes = λ p. rw (refusal_is e, all_of_lem e p);
      passed = λ z. passed_of e (unless_none (all_pass e) 9 (omega arith) (rw (refusal_is e) at z));
      nine = λ h. rw (refusal_is e) (nine_of (all_pass e) (λ t. h (passed_of e t)));
    }

pub four_alone : FourAlone
four_alone e small =
    record {
      passes = λ p. (nine_law e).passes (record { four = p; diet = small });
      passed = λ z. ((nine_law e).passed z).four;
      nine = λ h. (nine_law e).nine (λ p. h p.four);
    }

pub intake_of_input : (e : Exposure) → OfInput (intake_refusal e)
unfolding intake_refusal refusal_of
intake_of_input e = unless_of_input _ 9 (omega arith)

-- the intakes of an exposure that 9 does not refuse
module _ {e : Exposure} (lim : ExposureLimits e) (passed : intake_refusal e ≡ 0) where
  pub air_most : air_intake e ≤ 1_000_000_000
  air_most = ((nine_law e).passed passed).four.air

  pub intake_most : (medium : ℕ) → medium < 5 → intake_of e medium ≤ 1_000_000_000
  unfolding intakes_of
  intake_most medium l =
      let within = (nine_law e).passed passed in
      let four = within.four in
      each_get_or (λ x. x ≤ 1_000_000_000) (omega arith) (intakes_of e).media
      (within.diet, (four.water, (four.dust, (four.soil, (lim.alternate, tt))))) medium
