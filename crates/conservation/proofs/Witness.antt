-- The witness is accepted: its site file and its book by the laws of read-back, its birth and month by computing, its steps by their balance.
-- Assumes nothing.
use Prim.Native.Nat.{ℕ, zero, suc, ◌+◌, ◌-◌, ◌*◌, ◌/◌, ◌%◌, ◌≤◌, ◌<◌}
use mathlib.Core.Path.{◌≡◌, refl, sym, ap, ap₂, ◌∙◌}
use mathlib.Core.Bool.{true}
use mathlib.Core.List.{List, [], ◌∷◌}
use native.Mathlib.Omega.{arith}
use borrow.Author.Tests.{le-leb, leb-true, ltb-true, eqb-true, eq-eqb}
use lib.ListN.{length, get_or, take, drop, replicate, length-replicate, length-drop}
use lib.Seq.{ext_get_or, get_or-take, get_or-drop, length-take-le}
use lib.Dec.{eqb, leb, ltb}
use Rattle.numbers.specs.Choice.{unless, every, tab}
use Rattle.numbers.specs.Sums.{sum_to}
use Rattle.numbers.proofs.Every.{every-at, length-tab, get_or-tab, tab_same}
use Rattle.numbers.proofs.Lists.{get_or_below}
use Rattle.block.specs.Block.{byte_at, block_bytes, check_at, block_at}
use Rattle.block.specs.Writer.{written, body_of}
use Rattle.block.proofs.Laid.{body_passes}
use Rattle.block.proofs.Sealed.{length-sealed, written-sealed}
use Rattle.site.specs.declared.Scenario.{Scenario}
use Rattle.site.specs.SiteRead.{SiteRead}
use Rattle.site.specs.Fields.{ages, field_count, limits, within_limits, fields_fit}
use Rattle.site.specs.Scenario.{scenario_of, with_diets, mother_of}
use Rattle.site.specs.declared.edition.Edition.TheVariants.{First, Second}
use Rattle.site.specs.DustPlaces.{no_places, shares_away}
use Rattle.site.specs.Site.{site_refusal, read_as, read_site}
use Rattle.site.specs.Written.{site_body}
use Rattle.site.specs.Laws.{Within}
use Rattle.intake.specs.Bench.{worked_places}
use Rattle.site.proofs.FieldsWithin.{read_refusal}
use Rattle.site.proofs.ReadBack.{LaidOut, laid_out, none_within, no_places_laid, fields_read_back}
use Rattle.foods.specs.Names.{figure_count}
use Rattle.foods.specs.Laws.{foods_body, FoodsRead}
use Rattle.foods.proofs.ReadBack.{body_passes as foods-body-passes, figures_read_back}
use Rattle.diet.specs.Diet.{food_lead, in_meat, half_bought, home_grown, caught, in_whole_foods, diet_at, diets_of}
use Rattle.diet.specs.Bench.{worked_foods}
use Rattle.diet.proofs.BenchDiet.{worked_diet}
use Rattle.row.specs.declared.Rates.{Rates}
use Rattle.row.specs.declared.Row.{Row}
use Rattle.row.specs.Row.{numbers_a_row, last_month, row_numbers, row_from, row_of, volumes_fit, weights_fit, returns_fit, rates_fit, row_fits}
use Rattle.row.specs.Limits.{RateLimits}
use Rattle.book.specs.Book.{book_blocks, book_bytes, table_numbers, numbers_a_block, book_form}
use Rattle.book.specs.Laws.{block_part, BookReads}
use Rattle.book.proofs.ReadBack.{book_read_back}
use Rattle.kinetics.specs.declared.State.{State}
use Rattle.kinetics.specs.Step.{burden, burden_limit, next}
use Rattle.row.proofs.RowWithin.{row_within}
use Rattle.exposure.specs.Exposure.{exposure_at}
use Rattle.intake.specs.Intake.{air_intake, water_intake, soil_intake, dust_concentration, dust_part, dust_intake, intakes_of, refusal_of, intake_refusal}
use Rattle.uptake.specs.Age.{age_of}
use Rattle.uptake.proofs.UptakeBounds.{age_law}
use Rattle.uptake.specs.Uptake.{percent_of, saturation_of, absorbable, absorbable_total, passive_uptake, active_part, active_uptake, medium_uptake, air_uptake, day_uptake}
use Rattle.blood.specs.Birth.{birth_blood, birth_total, birth_plasma, birth_red_cells, birth_organ, birth_lead, birth_state}
use Rattle.state.specs.State.{is_state, state_refusal}
use Rattle.state.proofs.SoundState.{Sound, passed_sound, state_passes}
use Rattle.steps.specs.Steps.{steps_a_day, days_a_month, steps_refusal}
use Rattle.steps.proofs.Shares.{sum_of, days_total}
use Rattle.steps.proofs.Loops.{step_conserves}
use Rattle.child.specs.Answers.{BirthAnswer}
use Rattle.child.specs.Birth.{newborn, newborn_refusal, accepted_birth}
use Rattle.child.specs.Month.{month_after, exposure_in, month_uptake, month_rates, month_shares, child_refusal}
use Rattle.child.specs.Months.{months_by}
use Rattle.files.specs.Files.{Files, length_refusal, before_book_refusal, files_refusal, scenario_in, table_in}
use Rattle.engine.specs.Birth.{birth_refusal, birth_of}
use Rattle.engine.specs.Month.{month_refusal, month_of}
use Rattle.engine.specs.Run.{start_refusal, run_of}
use Rattle.conservation.proofs.WholeMonths.{month_refusal_lem, month_accepted}
use Rattle.conservation.specs.Witness.{witness_fields, witness_row, witness_table, witness_block, witness_site, second_site, book_of, witness_book, witness_files, witness_foods, fed_files, SomethingAccepted}

-- ---- the site file

fields_fit_lem : fields_fit witness_fields ≡ true
unfolding witness_fields every limits within_limits fields_fit
fields_fit_lem = refl

fields_long : length witness_fields ≡ field_count
unfolding witness_fields
fields_long = refl

-- a sealed body is what the writer leaves in a target of zeros
zeros : List ℕ
zeros = replicate block_bytes 0

zeros_long : length zeros ≡ block_bytes
unfolding zeros
zeros_long = length-replicate {A = ℕ} block_bytes 0

-- zero shares and figures, and the worked places, laid out in the two editions
first_laid : LaidOut First witness_fields no_places (site_body First witness_fields no_places)
first_laid = no_places_laid First witness_fields fields_long fields_fit_lem

site_read : read_site witness_site ≡ read_as witness_fields no_places
unfolding witness_site
site_read =
    ap read_site (sym (written-sealed (site_body First witness_fields no_places) zeros first_laid.passes.long zeros_long))
    ∙ fields_read_back First witness_fields no_places zeros fields_long refl (none_within witness_fields fields_fit_lem) zeros_long

worked_within : Within witness_fields worked_places
unfolding shares_away sum_to
worked_within = record { fields_fit = fields_fit_lem; places_fit = refl; away_fits = refl }

second_read : read_site second_site ≡ read_as witness_fields worked_places
unfolding second_site
second_read =
    let laid = laid_out Second witness_fields worked_places fields_long refl worked_within in
    ap read_site (sym (written-sealed (site_body Second witness_fields worked_places) zeros laid.passes.long zeros_long))
    ∙ fields_read_back Second witness_fields worked_places zeros fields_long refl worked_within zeros_long

-- ---- the book

row_small : (k : ℕ) → get_or witness_row k 0 < 4_294_967_296
unfolding witness_row every
row_small =
    get_or_below 4_294_967_296 (omega arith) witness_row
    (λ k h. ltb-true (get_or witness_row k 0) 4_294_967_296 (every-at (λ (k : ℕ). ltb (get_or witness_row k 0) 4_294_967_296) 0 numbers_a_row small k (omega arith) h))
  where
    small : every (λ (k : ℕ). ltb (get_or witness_row k 0) 4_294_967_296) 0 numbers_a_row ≡ true
    small = refl

abbrev number : ℕ → ℕ
number j = get_or witness_row (j % numbers_a_row) 0

table_long : length witness_table ≡ table_numbers
unfolding witness_table
table_long = length-tab table_numbers number

table_small : (k : ℕ) → get_or witness_table k 0 < 4_294_967_296
unfolding witness_table
table_small =
    get_or_below 4_294_967_296 (omega arith) witness_table
    (λ k h. rw (get_or-tab table_numbers number k (omega (arith, length-tab table_numbers number))) (row_small (k % numbers_a_row)))

-- each row of the table is the same
table_row : (m : ℕ) → m ≤ last_month → row_of witness_table m ≡ row_from (tab numbers_a_row (λ (k : ℕ). get_or witness_row k 0))
unfolding row_of row_numbers witness_table
table_row m h =
    ap row_from
    (tab_same numbers_a_row (λ (k : ℕ). get_or witness_table (numbers_a_row * m + k) 0) (λ (k : ℕ). get_or witness_row k 0)
    (λ k l.
    let place : (numbers_a_row * m + k) % numbers_a_row ≡ k = omega arith in
    get_or-tab table_numbers number (numbers_a_row * m + k) (omega arith) ∙ ap (λ (i : ℕ). get_or witness_row i 0) place))

-- the row with its fields by name
row : Row
row = row_from (tab numbers_a_row (λ (k : ℕ). get_or witness_row k 0))

row_fits_lem : row_fits row ≡ true
unfolding row witness_row tab every sum_to volumes_fit weights_fit returns_fit rates_fit row_fits
row_fits_lem = refl

rows_fit_lem : (m : ℕ) → m ≤ last_month → row_fits (row_of witness_table m) ≡ true
unfolding row
rows_fit_lem m h = ap row_fits (table_row m h) ∙ row_fits_lem

part_long : (n : ℕ) → n < book_blocks → length (block_part witness_table n) ≡ numbers_a_block
part_long n h = length-take-le numbers_a_block (drop (numbers_a_block * n) witness_table) (omega (arith, length-drop (numbers_a_block * n) witness_table, table_long))

block_body_long : (n : ℕ) → n < book_blocks → length (body_of (book_form n) (block_part witness_table n)) ≡ check_at
block_body_long n h =
    let long = part_long n h in
    (body_passes (book_form n) (block_part witness_table n) (omega arith) (omega arith) (omega arith) (omega arith)).long

pub block_long : (n : ℕ) → n < book_blocks → length (witness_block n) ≡ block_bytes
unfolding witness_block
block_long n h = length-sealed (body_of (book_form n) (block_part witness_table n)) (block_body_long n h)

-- a book of 17 blocks is as long as it has to be, and has them: byte j stands in block j / 512
module _ (blocks : ℕ → List ℕ) where
  abbrev byte : ℕ → ℕ
  byte j = byte_at (blocks (j / block_bytes)) (j % block_bytes)

  pub book_long : length (book_of blocks) ≡ book_bytes
  unfolding book_of
  book_long = length-tab book_bytes byte

  pub block_of_book : (n : ℕ) → n < book_blocks → length (blocks n) ≡ block_bytes → block_at (book_of blocks) n ≡ blocks n
  unfolding block_at book_of
  block_of_book n h block_long =
      let rest : length (drop (block_bytes * n) (book_of blocks)) ≡ book_bytes - block_bytes * n = length-drop (block_bytes * n) (book_of blocks) ∙ ap (λ (k : ℕ). k - block_bytes * n) book_long in
      let long : length (take block_bytes (drop (block_bytes * n) (book_of blocks))) ≡ block_bytes = length-take-le block_bytes (drop (block_bytes * n) (book_of blocks)) (omega arith) in
      ext_get_or 0 (take block_bytes (drop (block_bytes * n) (book_of blocks))) (blocks n) (long ∙ sym block_long)
      (λ k l.
      let here : k < block_bytes = omega arith in
      let block : (block_bytes * n + k) / block_bytes ≡ n = omega arith in
      let place : (block_bytes * n + k) % block_bytes ≡ k = omega arith in
      get_or-take block_bytes (drop (block_bytes * n) (book_of blocks)) k 0 here
      ∙ get_or-drop (block_bytes * n) (book_of blocks) k 0
      ∙ get_or-tab book_bytes byte (block_bytes * n + k) (omega arith)
      ∙ ap₂ (λ (b i : ℕ). byte_at (blocks b) i) block place)

book_reads : BookReads witness_book witness_table
unfolding witness_book witness_block
book_reads =
    book_read_back (book_of witness_block) witness_table (λ n. zeros) (book_long witness_block) table_long table_small rows_fit_lem (λ n h. zeros_long)
    (λ n h. block_of_book witness_block n h (block_long n h) ∙ written_block n h)
  where
    written_block : (n : ℕ) → n < book_blocks → witness_block n ≡ written (body_of (book_form n) (block_part witness_table n)) zeros
    written_block n h = sym (written-sealed (body_of (book_form n) (block_part witness_table n)) zeros (block_body_long n h) zeros_long)

-- ---- the files

pub site_long : length witness_site ≡ block_bytes
unfolding witness_site
site_long = length-sealed (site_body First witness_fields no_places) first_laid.passes.long

all_book_long : length witness_book ≡ book_bytes
unfolding witness_book
all_book_long = book_long witness_block

site_passes : site_refusal witness_site ≡ 0
unfolding read_as
site_passes = sym (read_refusal witness_site) ∙ ap (λ (x : SiteRead). x.refusal) site_read

second_passes : site_refusal second_site ≡ 0
unfolding read_as
second_passes = sym (read_refusal second_site) ∙ ap (λ (x : SiteRead). x.refusal) second_read

site_scenario : (read_site witness_site).scenario ≡ scenario_of witness_fields no_places
unfolding read_as
site_scenario = ap (λ (x : SiteRead). x.scenario) site_read

-- ---- the foods block

worked_long : length worked_foods ≡ figure_count
unfolding worked_foods
worked_long = refl

foods_read : FoodsRead witness_foods worked_foods
unfolding witness_foods
foods_read =
    rw (sym (written-sealed (foods_body worked_foods) zeros (foods-body-passes worked_foods worked_long).long zeros_long))
    (figures_read_back worked_foods zeros worked_long worked_diet.shares worked_diet.amounts zeros_long)

-- ---- birth

child : State
child = birth_state row 1_000

-- its burden, and that a month can follow
burden_is : burden child.lead ≡ 1_880_200
unfolding child row witness_row tab sum_to birth_blood birth_total birth_plasma birth_red_cells birth_organ birth_lead birth_state
burden_is = refl

child_passes : state_refusal child ≡ 0
unfolding child row witness_row tab sum_to birth_blood birth_total birth_plasma birth_red_cells birth_organ birth_lead birth_state is_state state_refusal unless
child_passes = refl

child_sound : Sound child
child_sound = passed_sound child child_passes

first_month : child.month ≡ 0
unfolding child birth_state
first_month = refl

-- steps whose uptakes fit beside the burden are not refused
module _ (rates : State → Rates) (limits : (b : State) → RateLimits (rates b)) where
  steps_pass : (a : State) (us : List ℕ) → burden a.lead + sum_of us ≤ burden_limit → steps_refusal rates a us ≡ 0
  unfolding steps_refusal unless
  steps_pass a [] h = refl
  steps_pass a (u ∷ us) h =
      let kept = step_conserves (rates a) a u (limits a) in
      rw (le-leb (burden a.lead + u) burden_limit (omega arith)) (steps_pass (next (rates a) a u) us (omega arith))

-- T of an age, by the book's row
abbrev uptake_at : Scenario → ℕ → ℕ
uptake_at scenario age = day_uptake (exposure_at scenario age) row.body_weight row.body_weight

-- what a day and a month bring at most: T of the diet without foods
abbrev day_brings : ℕ
day_brings = 2_484_000

abbrev month_brings : ℕ
month_brings = days_a_month * day_brings

-- what is computed of a scenario for each age
record AgesPass (scenario : Scenario) : Type 0 where
  pub mother : mother_of scenario ≡ 1_000
  pub intakes : every (λ (age : ℕ). eqb (intake_refusal (exposure_at scenario age)) 0) 0 ages ≡ true
  pub uptakes : every (λ (age : ℕ). leb (uptake_at scenario age) day_brings) 0 ages ≡ true

-- T of a month is that of its age
uptake_of_age : (scenario : Scenario) (m : ℕ) → m ≤ last_month → month_uptake scenario witness_table m ≡ uptake_at scenario (age_of m)
unfolding month_uptake row
uptake_of_age scenario m most =
    ap₂ (λ (w w24 : Row). day_uptake (exposure_in scenario m) w.body_weight w24.body_weight) (table_row m most) (table_row 24 (omega arith))

-- ---- birth, months and run of files that are read as such a scenario and the table

record Reads (f : Files) (scenario : Scenario) : Type 0 where
  pub lengths : length_refusal f ≡ 0
  pub files : files_refusal f ≡ 0
  pub scenario_is : scenario_in f ≡ scenario
  pub table_is : table_in f ≡ witness_table

module _ {f : Files} {scenario : Scenario} (reads : Reads f scenario) (ages_pass : AgesPass scenario) where
  newborn_is : newborn (scenario_in f) (table_in f) ≡ child
  unfolding newborn child row
  newborn_is = rw (reads.scenario_is, reads.table_is, table_row 0 (omega arith), ages_pass.mother)

  newborn_passes : newborn_refusal (scenario_in f) (table_in f) ≡ 0
  unfolding newborn_refusal unless
  newborn_passes = rw (newborn_is, le-leb (burden child.lead) burden_limit (omega (arith, burden_is)))

  birth_passes : birth_refusal f ≡ 0
  unfolding birth_refusal
  birth_passes = rw (reads.files, newborn_passes)

  birth_is : birth_of f ≡ accepted_birth child
  unfolding birth_of
  birth_is = rw (birth_passes, newborn_is)

  module _ (m : ℕ) (most : m ≤ last_month) where
    intakes_pass : intake_refusal (exposure_in scenario m) ≡ 0
    intakes_pass =
        eqb-true _ 0 (every-at (λ (age : ℕ). eqb (intake_refusal (exposure_at scenario age)) 0) 0 ages ages_pass.intakes (age_of m) (omega arith) (omega (arith, age_law m most)))

    uptake_most : month_uptake scenario witness_table m ≤ day_brings
    uptake_most =
        rw (uptake_of_age scenario m most)
        (leb-true _ day_brings (every-at (λ (age : ℕ). leb (uptake_at scenario age) day_brings) 0 ages ages_pass.uptakes (age_of m) (omega arith) (omega (arith, age_law m most))))

    uptake_of_files : month_uptake (scenario_in f) (table_in f) m ≤ day_brings
    uptake_of_files = rw (reads.scenario_is, reads.table_is) uptake_most

  -- a month of a sound child with room for what it brings
  module _ (a : State) (sound : Sound a) (before : a.month < last_month) (room : burden a.lead + month_brings ≤ burden_limit) where
    month_most : month_after a ≤ last_month
    month_most = omega arith

    month_steps_pass : steps_refusal (month_rates witness_table (month_after a)) a (month_shares steps_a_day scenario witness_table (month_after a)) ≡ 0
    unfolding month_shares
    month_steps_pass =
        let limits = row_within (row_of witness_table (month_after a)) (rows_fit_lem (month_after a) month_most) in
        let total = days_total steps_a_day (month_uptake scenario witness_table (month_after a)) (omega arith) days_a_month in
        steps_pass (month_rates witness_table (month_after a)) (λ b. limits.rates) a _ (omega (arith, uptake_most (month_after a) month_most))

    child_month_passes : child_refusal steps_a_day a scenario witness_table ≡ 0
    unfolding child_refusal
    child_month_passes = rw (state_passes sound before, intakes_pass (month_after a) month_most, month_steps_pass)

    month_passes : month_refusal steps_a_day a f ≡ 0
    unfolding month_refusal
    month_passes = rw (reads.files, reads.scenario_is, reads.table_is, child_month_passes)

  first_month_passes : (month_of steps_a_day (birth_of f).state f).refusal ≡ 0
  first_month_passes =
      rw birth_is (month_refusal_lem steps_a_day child f ∙ month_passes child child_sound (omega (arith, first_month)) (omega (arith, burden_is)))

  months_pass : (n : ℕ) (a : State) → Sound a → a.month + n ≤ last_month → burden a.lead + n * month_brings ≤ burden_limit
      → (months_by (λ (b : State). month_of steps_a_day b f) n a).refusal ≡ 0
  unfolding months_by
  months_pass zero a sound h room = refl
  months_pass (suc n) a sound h room =
      let passed = month_passes a sound (omega arith) (omega arith) in
      let done = month_accepted (λ g. steps_a_day) (λ g. omega arith) a f passed in
      let brought = uptake_of_files (month_after a) (omega arith) in
      rw (month_refusal_lem steps_a_day a f ∙ passed)
      (months_pass n (month_of steps_a_day a f).state done.sound (omega (arith, done.whole.number)) (omega (arith, done.balance.lead, brought)))

  starts : start_refusal f last_month ≡ 0
  unfolding start_refusal unless
  starts = rw (reads.lengths, birth_passes)

  run_passes : (run_of steps_a_day f last_month).refusal ≡ 0
  unfolding run_of
  run_passes = rw (starts, birth_is) (months_pass last_month child child_sound (omega (arith, first_month)) (omega (arith, burden_is)))

-- ---- without foods, and with them

both_long : length_refusal witness_files ≡ 0
unfolding unless
both_long = rw (eq-eqb (length witness_site) block_bytes site_long, eq-eqb (length witness_book) book_bytes all_book_long)

reads : Reads witness_files (scenario_of witness_fields no_places)
unfolding files_refusal before_book_refusal
reads = record { lengths = both_long; files = rw (both_long, site_passes, book_reads.refusal); scenario_is = site_scenario; table_is = book_reads.table }

ages_pass : AgesPass (scenario_of witness_fields no_places)
unfolding every row witness_row tab witness_fields scenario_of exposure_at air_intake water_intake soil_intake dust_concentration shares_away dust_part dust_intake intakes_of refusal_of intake_refusal unless
    sum_to percent_of saturation_of absorbable absorbable_total passive_uptake active_part active_uptake medium_uptake air_uptake day_uptake
ages_pass = record { mother = refl; intakes = refl; uptakes = refl }

uptake_is : uptake_at (scenario_of witness_fields no_places) 0 ≡ day_brings
unfolding row witness_row tab witness_fields scenario_of exposure_at air_intake water_intake soil_intake dust_concentration shares_away dust_part dust_intake intakes_of
    sum_to percent_of saturation_of absorbable absorbable_total passive_uptake active_part active_uptake medium_uptake air_uptake day_uptake
uptake_is = refl

-- the diets of the worked foods, and the scenario with them
diets : List ℕ
diets = 11_085 ∷ replicate 6 0

diets_are : diets_of worked_foods ≡ diets
unfolding tab worked_foods food_lead in_meat half_bought home_grown caught in_whole_foods diet_at diets_of diets
diets_are = refl

abbrev fed : Scenario
fed = with_diets diets (scenario_of witness_fields no_places)

reads_fed : Reads fed_files fed
unfolding files_refusal before_book_refusal
reads_fed =
    record {
      lengths = both_long;
      files = rw (both_long, site_passes, foods_read.refusal, book_reads.refusal);
      scenario_is = ap₂ with_diets (ap diets_of foods_read.figures ∙ diets_are) site_scenario;
      table_is = book_reads.table;
    }

ages_pass_fed : AgesPass fed
unfolding every row witness_row tab witness_fields scenario_of exposure_at air_intake water_intake soil_intake dust_concentration shares_away dust_part dust_intake intakes_of refusal_of intake_refusal unless
    sum_to percent_of saturation_of absorbable absorbable_total passive_uptake active_part active_uptake medium_uptake air_uptake day_uptake diets
ages_pass_fed = record { mother = refl; intakes = refl; uptakes = refl }

uptake_fed : uptake_at fed 0 ≡ 11_080
unfolding row witness_row tab witness_fields scenario_of exposure_at air_intake water_intake soil_intake dust_concentration shares_away dust_part dust_intake intakes_of
    sum_to percent_of saturation_of absorbable absorbable_total passive_uptake active_part active_uptake medium_uptake air_uptake day_uptake diets
uptake_fed = refl

-- T of the first month
first_uptake : (f : Files) (scenario : Scenario) → Reads f scenario → month_uptake (scenario_in f) (table_in f) 1 ≡ uptake_at scenario 0
unfolding age_of
first_uptake f scenario r = rw (r.scenario_is, r.table_is) (uptake_of_age scenario 1 (omega arith))

pub something_accepted : SomethingAccepted
something_accepted =
    record {
      site = site_passes;
      second_site = second_passes;
      book = book_reads.refusal;
      birth = ap (λ (x : BirthAnswer). x.refusal) (birth_is reads ages_pass);
      month = first_month_passes reads ages_pass;
      uptake = first_uptake witness_files _ reads ∙ uptake_is;
      run = run_passes reads ages_pass;
      foods = foods_read.refusal;
      fed_birth = ap (λ (x : BirthAnswer). x.refusal) (birth_is reads_fed ages_pass_fed);
      fed_month = first_month_passes reads_fed ages_pass_fed;
      fed_uptake = first_uptake fed_files fed reads_fed ∙ uptake_fed;
      fed_run = run_passes reads_fed ages_pass_fed;
    }
