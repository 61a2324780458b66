-- The delivery: each law cited from where it is proved.
-- Assumes nothing.
use Rattle.site.proofs.FieldsWithin as site
use Rattle.site.proofs.ReadBack as site_read
use Rattle.exposure.proofs.ExposureWithin as exposure
use Rattle.foods.proofs.FiguresWithin as foods
use Rattle.foods.proofs.ReadBack as foods_read
use Rattle.diet.proofs.DietBounds as diet
use Rattle.diet.proofs.BenchDiet as worked
use Rattle.row.proofs.RowWithin as row
use Rattle.book.proofs.RowsWithin as book
use Rattle.book.proofs.ReadBack as book-read
use Rattle.book.proofs.Decodes as book_decodes
use Rattle.files.proofs.Decodes as files_decodes
use Rattle.intake.proofs.Refusal9 as intake
use Rattle.intake.proofs.Home as home
use Rattle.intake.proofs.Bench as dust
use Rattle.site.proofs.Editions as editions
use Rattle.convert.proofs.Conversions as convert
use Rattle.converted.proofs.SameAnswers as same
use Rattle.converted.proofs.Conversions as converted
use Rattle.uptake.proofs.UptakeBounds as uptake
use Rattle.uptake.proofs.RouteSums as parts
use Rattle.sensitivity.proofs.Laws as sensitivity
use Rattle.sensitivity.proofs.Witness as reached
use Rattle.routes.proofs.RunSums as routes
use Rattle.margin.proofs.StepLaws as margin
use Rattle.blood.proofs.BirthAmounts as newborn
use Rattle.blood.proofs.FigureFits as figure
use Rattle.steps.proofs.ShareSum as shares
use Rattle.conservation.proofs.Bench as bench
use Rattle.conservation.proofs.Demand3 as demand3
use Rattle.conservation.proofs.FoodsDiet as fed
use Rattle.conservation.proofs.RunIsCalls as run
use Rattle.conservation.proofs.Witness as witness
use Rattle.conservation.proofs.WipedBlocks as wiped
use Rattle.jurengate.proofs.Words as words
use Rattle.text.proofs.DecimalIsWritten as text
use Rattle.printout.proofs.LinesAreWhole as lines
use Rattle.printout.proofs.FirstBytes as bytes
use Rattle.printout.proofs.Bench as shown
use Rattle.lines.proofs.Sense as sense
use Rattle.lines.proofs.Feeding as feeding
use Rattle.lines.proofs.Answering as answering
use Rattle.lines.proofs.Reading as reading
use Rattle.lines.proofs.Walks as walks
use Rattle.lines.proofs.LineStarts as starts-of-lines
use Rattle.lines.proofs.Worked as texts
use Rattle.figures.proofs.Written as written
use Rattle.figures.proofs.Only as only
use Rattle.card.specs.RowRead.{RowRead}
use Rattle.card.proofs.Rows as card
use Rattle.site.proofs.PutFits as put
use Rattle.cardsite.proofs.Starts as starts
use Rattle.cardsite.proofs.RowLaws as cardsite
use Rattle.cardsite.proofs.RowValues as values
use Rattle.cardsite.proofs.CardBench as worked_rows
use Rattle.roll.proofs.RowWords as row_words
use Rattle.roll.proofs.RollRows as roll
use Rattle.child.proofs.CourseInRun as course
use Rattle.survey.proofs.RowLaws as survey
use Rattle.group.proofs.GroupDecodes as group_decodes
use Rattle.cardline.proofs.GroupLines as groups
use Rattle.cardline.proofs.FirstBytes as card-bytes
use Rattle.cardline.proofs.CardBench as card-lines
use Rattle.delivery.specs.Delivery.{Delivery}

pub delivery : Delivery
delivery =
    record {
      exposure_within = exposure.exposure_accepted;
      diet_within = exposure.diet_accepted;
      mother_within = site.mother_accepted;
      foods_within = foods.foods_within;
      foods_diet_within = diet.diet_within;
      row_within = row.row_within;
      rows_within = book.rows_within;
      nine = intake.nine_law;
      nine_of_four = intake.four_alone;
      without_foods = fed.without_foods;
      with_foods = fed.with_foods_lem;
      never_20 = demand3.state_law;
      run_is_calls = run.run_law;
      something_accepted = witness.something_accepted;
      bench_figures = bench.bench_figures;
      worked_diet = worked.worked_diet;
      worked_dust = dust.worked_dust;
      dust_at_home = home.home_dust;
      age = uptake.age_law;
      saturation = uptake.saturation_law;
      media = uptake.medium_laws;
      air = uptake.air_law;
      day = uptake.day_law;
      files_uptake = fed.uptake_law;
      parts = parts.routes_law;
      route_sums = parts.route_sums_law;
      months_parted = routes.parted_law;
      months_done = routes.done_law;
      months_kept = routes.kept_law;
      q_sensitivity = sensitivity.sensitivity_law;
      day_of_q = sensitivity.own_q_law;
      day_sensitivity = sensitivity.exposure_law;
      days_reached = reached.reached;
      shares = shares.share_law;
      birth = newborn.birth_law;
      blood_figure = figure.blood_law;
      site_right_check = site.right_check;
      site_body = site_read.body_read_back;
      first_site_body = site_read.first_body_read_back;
      site_fields = site_read.fields_read_back;
      site_edition = editions.of_edition;
      first_places = editions.first_without_places;
      foods_right_check = foods.right_check;
      foods_body = foods_read.body_read_back;
      foods_figures = foods_read.figures_read_back;
      book_right_checks = book.right_checks;
      book_body = book-read.body_read_back;
      book_numbers = book-read.numbers_read_back;
      book_blocks = book.whole_book;
      book_whole = book-read.book_read_back;
      converted_up = convert.up;
      converted_down = convert.down;
      down_after_up = convert.down_after_up;
      up_after_down = convert.up_after_down;
      read_alike_same = same.same_law;
      up_same = converted.up_same;
      down_same = converted.down_same;
      words_of_state = words.words_law;
      state_of_words = words.state_words_law;
      decimals = text.decimal_law;
      printed_lines = lines.lines_law;
      first_bytes = bytes.first_bytes_law;
      shown_lines = shown.bench;
      text_lines = sense.lines_law;
      row_fields = sense.fields_law;
      kept_row = feeding.fed_row;
      kept_answers = answering.answers_law RowRead;
      text_rows = reading.rows_read;
      text_cuts = reading.cuts_law;
      text_walk = walks.walked;
      worked_texts = texts.worked_texts;
      figure-written = written.written_law;
      figure-star = written.star_law;
      figure-whole = only.whole_law;
      figure_alone = only.figure_law;
      row_read = card.row_read;
      text_read = card.text_read;
      row_runs = starts.runs_within;
      worked_rows = worked_rows.bench;
      every_age_fits = put.every_age_fits;
      every_age_puts = put.every_age_puts;
      singly_fits = put.singly_fits;
      singly_puts = put.singly_puts;
      row_fits = cardsite.row_fits_lem;
      row_exposure_within = cardsite.row_within;
      row_exposures = values.row_exposures;
      row_mother = values.row_mother;
      course_in_run = course.course_law;
      files_first = survey.files_first;
      row_kept = survey.kept_law;
      row_in_its_run = survey.own_run_law;
      row_in_run = survey.run_law;
      card_first_bytes = card-bytes.first_bytes_law;
      card_shown = card-lines.bench;
      refused_block = book_decodes.refused_block;
      book_decodes = book_decodes.decodes_law;
      files_decodes = files_decodes.decodes_law;
      files_ends = files_decodes.ends_law;
      something_refused = wiped.something_refused;
      group_decodes = group_decodes.decodes_law;
      card_group_decodes = groups.decodes_law;
      plain_rows = reading.plain_rows;
      line_starts = starts-of-lines.line_starts;
      row_words = row_words.words_law;
      roll_rows = roll.roll_law;
      card_group = groups.group_law;
      card_groups = groups.groups_law;
      card_pieces = groups.pieces_law;
      from_birth = demand3.from_birth_lem;
      from_any_state = demand3.demand3;
      solution = margin.solution_law;
      lead = margin.lead_law;
      step = margin.step_law;
    }
