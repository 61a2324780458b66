-- Laws of the calls beside demand 3: what birth and the month call answer is a state, the run is birth and month calls, and what a foods block changes.
-- Assumes nothing.
use Rattle.std.specs.Prelude.{ℕ, ◌≤◌, ◌<◌, ◌≡◌, List, [], ◌∷◌, length, replicate}
use Rattle.numbers.specs.Choice.{first_of}
use Rattle.numbers.specs.Lists.{Each}
use Rattle.site.specs.Fields.{last_age, by_age, diet_group}
use Rattle.site.specs.Scenario.{with_diets}
use Rattle.site.specs.Site.{site_fields, site_refusal, read_site}
use Rattle.foods.specs.Foods.{figures_of, foods_refusal}
use Rattle.diet.specs.Diet.{diet_at, diets_of}
use Rattle.book.specs.Book.{book_refusal, book_table}
use Rattle.exposure.specs.declared.Exposure.{Exposure}
use Rattle.exposure.specs.Exposure.{exposure_at}
use Rattle.intake.specs.Intake.{intake_refusal}
use Rattle.intake.specs.Laws.{FourPassed, RefusalLaw}
use Rattle.uptake.specs.Laws.{day_limit}
use Rattle.kinetics.specs.declared.State.{State}
use Rattle.files.specs.Files.{Files, files_of, files_with, length_refusal, files_refusal, scenario_in, table_in}
use Rattle.row.specs.Row.{last_month}
use Rattle.child.specs.Month.{exposure_in, month_uptake}
use Rattle.child.specs.Months.{MonthsRun}
use Rattle.engine.specs.Birth.{birth_of}
use Rattle.engine.specs.Month.{month_of}
use Rattle.engine.specs.Run.{start_refusal, run_of}
use Rattle.conservation.specs.Conservation.{Month, accepted_months, end_at}

-- the refusal that each of month calls answers, the first from the state a
unfoldable pub refusals : (Files → ℕ) → State → List Files → List ℕ
refusals steps a [] = []
refusals steps a (f ∷ fs) = (month_of (steps f) a f).refusal ∷ refusals steps (month_of (steps f) a f).state fs

-- after an accepted birth no call is refused with 20
abbrev pub StateLaw : Type 0
StateLaw =
    (steps : Files → ℕ) → ((f : Files) → 0 < steps f) → (birth : Files) → (birth_of birth).refusal ≡ 0 → (calls : List Files)
    → Each (λ (r : ℕ). r ≡ 20 → ⊥) (refusals steps (birth_of birth).state calls)

-- a run that started from the state a, against the accepted ones of 84 month calls with the run's files: as many figures as months,
-- the state is their last end, with the number of the months done; 0 is answered if all are done, and 20 and 21 never
pub record RunLaw (a : State) (months : List Month) (run : MonthsRun) : Type 0 where
  pub figures : length run.figures ≡ length months
  pub state : run.state ≡ end_at a months (length months)
  pub number : run.state.month ≡ length months
  pub whole : run.refusal ≡ 0 → length months ≡ last_month
  pub never_20 : run.refusal ≡ 20 → ⊥
  pub never_21 : run.refusal ≡ 21 → ⊥

abbrev pub RunLaws : Type 0
RunLaws =
    (steps : Files → ℕ) → ((f : Files) → 0 < steps f) → (f : Files) → start_refusal f last_month ≡ 0
    → RunLaw (birth_of f).state (accepted_months steps (birth_of f).state (replicate last_month f)) (run_of (steps f) f last_month)

-- what a site file by itself exposes a child of an age to
abbrev pub site_exposure : List ℕ → ℕ → Exposure
site_exposure site age = exposure_at (read_site site).scenario age

-- without a foods block every answer is as it was before there were any: its files are refused as the lengths, the site file and the book say,
-- its scenario and its diet are the site file's, and 9 looks at air, water, soil and dust alone
pub record WithoutFoods (site book : List ℕ) : Type 0 where
  pub refusal : files_refusal (files_of site book) ≡ first_of (length_refusal (files_of site book) ∷ site_refusal site ∷ book_refusal book ∷ [])
  pub scenario : scenario_in (files_of site book) ≡ (read_site site).scenario
  pub table : table_in (files_of site book) ≡ book_table book
  pub diet : site_refusal site ≡ 0 → (age : ℕ) → age ≤ last_age → (site_exposure site age).diet ≡ by_age (site_fields site) diet_group age
  pub nine : site_refusal site ≡ 0 → (age : ℕ) → age ≤ last_age → RefusalLaw (site_exposure site age) (FourPassed (site_exposure site age))

-- with an accepted one only the diets differ, and they are E-5's; birth does not
pub record WithFoods (site foods book : List ℕ) : Type 0 where
  pub lengths : length_refusal (files_with site foods book) ≡ length_refusal (files_of site book)
  pub refusal : files_refusal (files_with site foods book) ≡ files_refusal (files_of site book)
  pub scenario : scenario_in (files_with site foods book) ≡ with_diets (diets_of (figures_of foods)) (scenario_in (files_of site book))
  pub diet : (age : ℕ) → age ≤ last_age → (exposure_at (scenario_in (files_with site foods book)) age).diet ≡ diet_at (figures_of foods) age
  pub table : table_in (files_with site foods book) ≡ table_in (files_of site book)
  pub birth : birth_of (files_with site foods book) ≡ birth_of (files_of site book)

abbrev pub FoodsLaw : Type 0
FoodsLaw = (site foods book : List ℕ) → foods_refusal foods ≡ 0 → WithFoods site foods book

abbrev pub NoFoodsLaw : Type 0
NoFoodsLaw = (site book : List ℕ) → WithoutFoods site book

-- with foods or without, T is at most 6 × 10^9 once 9 has let the intakes of the month's age pass
abbrev pub UptakeLaw : Type 0
UptakeLaw =
    (f : Files) → files_refusal f ≡ 0 → (m : ℕ) → m ≤ last_month → intake_refusal (exposure_in (scenario_in f) m) ≡ 0
    → month_uptake (scenario_in f) (table_in f) m ≤ day_limit
