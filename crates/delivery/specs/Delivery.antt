-- THE DELIVERY: every law that is promised, demand by demand, as one record. Its proof is one record of citations (proofs/Delivery.antt).
-- What each open call answers and leaves is promised beside these, by the equations of its contract; docs/promises.txt lists both.
-- Assumes nothing.
use Rattle.std.specs.Prelude.{ℕ}
use Rattle.site.specs.Laws as site
use Rattle.exposure.specs.declared.Exposure.{Exposure}
use Rattle.exposure.specs.Laws as exposure
use Rattle.foods.specs.Laws as foods
use Rattle.diet.specs.Laws as diet
use Rattle.diet.specs.Bench as worked
use Rattle.row.specs.Laws as row
use Rattle.book.specs.Laws as book
use Rattle.files.specs.Laws as files
use Rattle.intake.specs.Laws as intake
use Rattle.intake.specs.Bench as dust
use Rattle.uptake.specs.Laws as uptake
use Rattle.sensitivity.specs.Laws as sensitivity
use Rattle.sensitivity.specs.Witness as reached
use Rattle.routes.specs.Laws as routes
use Rattle.margin.specs.Laws as margin
use Rattle.blood.specs.Laws as blood
use Rattle.steps.specs.Laws as steps
use Rattle.convert.specs.Laws as convert
use Rattle.converted.specs.Laws as converted
use Rattle.conservation.specs.Conservation as conservation
use Rattle.conservation.specs.Laws as calls
use Rattle.conservation.specs.Bench as bench
use Rattle.conservation.specs.Witness as witness
use Rattle.jurengate.specs.Laws as words
use Rattle.text.specs.Laws as text
use Rattle.printout.specs.Laws as printout
use Rattle.printout.specs.Bench as lines
use Rattle.lines.specs.Laws as texts
use Rattle.lines.specs.Bench as worked_texts
use Rattle.figures.specs.Laws as figures
use Rattle.card.specs.RowRead.{RowRead}
use Rattle.card.specs.Laws as card
use Rattle.cardsite.specs.Laws as cardsite
use Rattle.cardsite.specs.Bench as worked_rows
use Rattle.roll.specs.Laws as roll
use Rattle.child.specs.Laws as course
use Rattle.survey.specs.Laws as survey
use Rattle.group.specs.Laws as group
use Rattle.cardline.specs.Laws as cardline
use Rattle.cardline.specs.Bench as card_lines

pub record Delivery : Type 0 where
  -- DEMAND 1. A site file, foods block, rate book or child's state of any length and content is either run or refused with the exact number
  -- what passes is within its limits: the exposures, the site file's own diet, the mother's blood lead, a foods block's figures and diet, each row
  pub exposure_within : exposure.ExposureWithin
  pub diet_within : exposure.OwnDietWithin
  pub mother_within : site.MotherWithin
  pub foods_within : foods.FoodsWithin
  pub foods_diet_within : diet.DietWithin
  pub row_within : row.RowWithin
  pub rows_within : book.RowsWithin
  -- 9 if and only if an air, water, soil or dust intake or a diet is over 10^9; with a diet within it, the four alone
  pub nine : intake.NineLaw
  pub nine_of_four : intake.FourAlone
  -- without a foods block every answer is as it was; with an accepted one only the diet differs, and it is E-5's
  pub without_foods : calls.NoFoodsLaw
  pub with_foods : calls.FoodsLaw
  -- after an accepted birth never 20; a run is birth and month calls, and is never refused with 20 or 21
  pub never_20 : calls.StateLaw
  pub run_is_calls : calls.RunLaws
  -- something is accepted: some files, their birth, their first month, with T not 0, and their run; with foods too
  pub something_accepted : witness.SomethingAccepted
  -- DEMAND 2. Intake, uptake, birth, every step and the blood figure equal the equations, rounding included
  -- the bench table as a whole
  pub bench_figures : bench.BenchFigures
  -- a worked diet, food by food
  pub worked_diet : worked.WorkedDiet
  -- the dust in its six parts, worked; where no share is above 0, as in edition 1, it is document 01's
  pub worked_dust : dust.WorkedDust
  pub dust_at_home : intake.HomeLaw
  -- a month's age is one of the site file's; SAT+A is never 0; nothing is taken up that was not taken in; T is at most 6 × 10^9
  pub age : uptake.AgeLaw
  pub saturation : (e : Exposure) (weight weight24 : ℕ) → uptake.SaturationLaw e weight weight24
  pub media : (e : Exposure) (weight weight24 : ℕ) → uptake.MediumLaws e weight weight24
  pub air : (e : Exposure) → uptake.AirLaw e
  pub day : (e : Exposure) (weight weight24 : ℕ) → uptake.DayLaw e weight weight24
  pub files_uptake : calls.UptakeLaw
  -- T is the passive and the active part of each eaten medium and the air's; the two routes' sums are at most 5 × 10^9 together; each month
  -- of a run has them, and those that are kept of any month are so bounded
  pub parts : (e : Exposure) (weight weight24 : ℕ) → uptake.RoutesLaw e weight weight24
  pub route_sums : (e : Exposure) (weight weight24 : ℕ) → uptake.RouteSumsLaw e weight weight24
  pub months_parted : routes.PartedLaw
  pub months_done : routes.DoneLaw
  pub months_kept : routes.KeptLaw
  -- if one medium's q rises by h, all else equal, T moves by no less than −4, no more than h + 4, and no more than h; T of any exposure is
  -- that of its own q; −4 and h are reached
  pub q_sensitivity : sensitivity.SensitivityLaw
  pub day_of_q : sensitivity.OwnQLaw
  pub day_sensitivity : sensitivity.ExposureLaw
  pub days_reached : reached.Reached
  -- the steps of a day absorb T together
  pub shares : steps.ShareLaws
  -- plasma and red cells at birth are the blood total; the blood figure is at most 50,000,000
  pub birth : blood.BirthLaws
  pub blood_figure : blood.BloodLaw
  -- a block written from fields within limits reads back as those fields; only a block with the right check is read
  pub site_right_check : site.RightCheck
  pub site_body : site.BodyReadBack
  pub first_site_body : site.FirstBodyReadBack
  pub site_fields : site.FieldsReadBack
  -- a site file is accepted as one of its own edition; in edition 1 it has zero shares and figures
  pub site_edition : site.OfEdition
  pub first_places : site.FirstWithoutPlaces
  pub foods_right_check : foods.RightCheck
  pub foods_body : foods.BodyReadBack
  pub foods_figures : foods.FiguresReadBack
  pub book_right_checks : book.RightChecks
  pub book_body : book.BodyReadBack
  pub book_numbers : book.NumbersReadBack
  pub book_blocks : book.WholeBook
  pub book_whole : book.BookReadBack
  -- a converted site file is of the other edition, its other fields stay and its shares and figures are zero; each way undoes the other
  pub converted_up : convert.UpLaw
  pub converted_down : convert.DownLaw
  pub down_after_up : convert.DownAfterUp
  pub up_after_down : convert.UpAfterDown
  -- and every call but those that read its places or convert it answers what it answered before, with every foods block, book, state, list, row and text,
  -- refusals too
  pub read_alike_same : converted.SameLaw
  pub up_same : converted.UpSame
  pub down_same : converted.DownSame
  -- the words of a state and the state of words undo each other
  pub words_of_state : words.WordsLaw
  pub state_of_words : words.StateWordsLaw
  -- the printout: its digits, its lines with both sums, the bytes that are enough to read, and the lines that document 01 shows
  pub decimals : text.DecimalLaw
  pub printed_lines : printout.LinesLaw
  pub first_bytes : printout.FirstBytesLaw
  pub shown_lines : lines.Bench
  -- BATCH CARDS. A text of any length gives its rows, and a row its twelve fields; what is kept of a row, read a byte at a time in pieces of any size,
  -- says what the row says
  pub text_lines : texts.LinesLaw
  pub row_fields : texts.FieldsLaw
  pub kept_row : texts.SummaryLaw
  pub kept_answers : texts.AnswersLaw RowRead
  pub text_rows : texts.RowsLaw
  pub text_cuts : texts.CutsLaw
  pub text_walk : texts.WalkLaw
  pub worked_texts : worked_texts.WorkedTexts
  -- a figure is digits, then at most a point and one to three digits, and nothing else; an asterisk is a gap
  pub figure-written : figures.WrittenLaw
  pub figure-star : figures.StarLaw
  pub figure-whole : figures.WholeLaw
  pub figure_alone : figures.FigureLaw
  -- a row's card, 12, skip and 7
  pub row_read : card.RowReadLaw
  pub text_read : card.TextReadLaw
  pub row_runs : cardsite.RunsWithin
  pub worked_rows : worked_rows.Bench
  -- a figure put over a site file's fields, at every age or singly, stands there, keeps the others, and keeps them within limits
  pub every_age_fits : site.EveryAgeFits
  pub every_age_puts : site.EveryAgePuts
  pub singly_fits : site.SinglyFits
  pub singly_puts : site.SinglyPuts
  -- so a row's scenario is within limits; it has the row's figures at every age, the site file's own at a gap, and both modes 0
  pub row_fits : cardsite.RowFits
  pub row_exposure_within : cardsite.RowWithin
  pub row_exposures : cardsite.RowExposures
  pub row_mother : cardsite.RowMother
  -- a child's course up to a month is as in a run; refused files refuse every row; a row that runs answers as the run of its scenario at its AGE, and as
  -- the files' own if it changes nothing
  pub course_in_run : course.CourseLaw
  pub files_first : survey.FilesFirst
  pub row_kept : survey.KeptLaw
  pub row_in_its_run : survey.OwnRunLaw
  pub row_in_run : survey.RunLaw
  -- the printout of a card; the bytes that are enough to read; lines and texts that the request shows
  pub card_first_bytes : cardline.FirstBytesLaw
  pub card_shown : card_lines.Bench
  -- GROUPS. Sixty-four rows need one reading of their book. A block of it is decoded exactly 17 times if the book is accepted, n + 1 times if its block n
  -- is refused, and never on a refusal before its blocks; every reading ends in one of these ways, and some at each block; a group carries its files' count, whatever its rows are
  pub refused_block : book.RefusedBlock
  pub book_decodes : book.DecodesLaw
  pub files_decodes : files.DecodesLaw
  pub files_ends : files.EndsLaw
  pub something_refused : witness.SomethingRefused
  pub group_decodes : group.DecodesLaw
  pub card_group_decodes : cardline.DecodesLaw
  -- a text of rows alone gives its rows, and from the start of line k on its lines after the first k: so groups follow each other
  pub plain_rows : texts.PlainRowsLaw
  pub line_starts : texts.LineStartLaw
  -- the words of a row on a roll say what becomes of it, and the rows before it stay as they were
  pub row_words : roll.WordsLaw
  pub roll_rows : roll.RollLaw
  -- a group is printed as each of its rows alone; rows go in groups of 64 in their order; so a text in any pieces is printed group by group
  pub card_group : cardline.GroupLaw
  pub card_groups : cardline.GroupsLaw
  pub card_pieces : cardline.PiecesLaw
  -- DEMAND 3. Over any list of month calls, refused ones among them: lead balances to the picogram between any two month ends, each ledger grows
  -- by its own exits, and after every step plasma lies within the stated margin of the exact backward Euler solution
  pub from_birth : conservation.FromBirth
  pub from_any_state : conservation.Demand3
  -- the exact solution is a fraction; a step loses and makes no lead, and keeps its margin
  pub solution : margin.SolutionLaws
  pub lead : margin.LeadLaws
  pub step : margin.StepLaws
