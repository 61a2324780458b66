-- Without a foods block nothing has changed; with an accepted one only the diet differs, and it is E-5's; T keeps its bound.
-- Assumes nothing.
use Prim.Native.Nat.{ℕ}
use mathlib.Core.Path.{◌≡◌, refl, sym, ap, ◌∙◌}
use mathlib.Core.List.{List}
use native.Mathlib.Omega.{arith}
use Rattle.numbers.specs.Choice.{or_else}
use Rattle.numbers.proofs.Every.{get_or-tab}
use Rattle.numbers.proofs.Refusals.{or_else_assoc, or_else-last}
use Rattle.site.specs.Fields.{ages, at, by_age, diet_group}
use Rattle.site.specs.Scenario.{scenario_of, with_diets}
use Rattle.site.specs.Site.{site_fields, site_refusal, read_site}
use Rattle.site.proofs.FieldsWithin.{accepted_scenario}
use Rattle.foods.specs.Foods.{figures_of}
use Rattle.foods.proofs.FiguresWithin.{accepted_figures}
use Rattle.diet.specs.Diet.{diets_of}
use Rattle.diet.proofs.DietBounds.{diet_of_age}
use Rattle.book.specs.Book.{book_refusal}
use Rattle.exposure.specs.Exposure.{exposure_at}
use Rattle.exposure.proofs.ExposureWithin.{diet_accepted}
use Rattle.intake.proofs.Refusal9.{four_alone}
use Rattle.uptake.specs.Age.{age_of}
use Rattle.uptake.proofs.UptakeBounds.{age_law, day_law}
use Rattle.child.specs.Birth.{newborn, newborn_refusal}
use Rattle.child.specs.Month.{exposure_in, month_uptake}
use Rattle.files.specs.Files.{files_of, length_refusal, before_book_refusal, files_refusal, scenario_in}
use Rattle.engine.specs.Birth.{birth_refusal, birth_of}
use Rattle.engine.proofs.FilesDecoded.{files_decoded}
use Rattle.conservation.specs.Laws.{FoodsLaw, NoFoodsLaw, UptakeLaw}

pub without_foods : NoFoodsLaw
unfolding files_refusal before_book_refusal exposure_at scenario_of
without_foods site book =
    record {
      refusal = by_length (length_refusal (files_of site book)) (site_refusal site);
      scenario = refl;
      table = refl;
      diet = λ passed age h. rw (accepted_scenario site passed) (get_or-tab ages (by_age (site_fields site) diet_group) age (omega arith));
      nine = λ passed age h. four_alone _ (diet_accepted site passed age h);
    }
  where
    by_length : (lengths its : ℕ) → or_else (or_else lengths (or_else its 0)) (or_else (book_refusal book) 0) ≡ or_else lengths (or_else its (or_else (book_refusal book) 0))
    by_length lengths its = ap (λ (n : ℕ). or_else (or_else lengths n) (or_else (book_refusal book) 0)) (or_else-last its) ∙ sym (or_else_assoc lengths its (or_else (book_refusal book) 0))

pub with_foods_lem : FoodsLaw
unfolding files_refusal before_book_refusal exposure_at newborn newborn_refusal birth_refusal birth_of
with_foods_lem site foods book passed =
    record {
      lengths = refl;
      refusal = rw passed;
      scenario = ap (λ (f : List ℕ). with_diets (diets_of f) (read_site site).scenario) (accepted_figures foods passed);
      diet = λ age h. ap (λ (f : List ℕ). at (diets_of f) age) (accepted_figures foods passed) ∙ diet_of_age (figures_of foods) age (omega arith);
      table = refl;
      birth = rw passed;
    }

pub uptake_law : UptakeLaw
unfolding month_uptake
uptake_law f passed m most intakes =
    day_law (exposure_in (scenario_in f) m) _ _ ((files_decoded f passed).exposure (age_of m) (age_law m most)) intakes
