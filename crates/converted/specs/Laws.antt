-- Of a site file that is converted between its two editions every call answers the same, but those that read its places or convert it.
-- Assumes nothing.
use Rattle.std.specs.Prelude.{◌≡◌, List, ℕ}
use Rattle.site.specs.Limits.{AtHome}
use Rattle.site.specs.Scenario.{without_places}
use Rattle.site.specs.Site.{site_refusal, read_site}
use Rattle.convert.specs.Convert.{to_second_refusal, to_second, to_first_refusal, to_first}
use Rattle.files.specs.Files.{FoodsFile, Files, length_refusal, files_refusal, files_decodes}
use Rattle.kinetics.specs.declared.State.{State}
use Rattle.engine.specs.Birth.{birth_of}
use Rattle.engine.specs.Month.{month_of}
use Rattle.engine.specs.Run.{run_of}
use Rattle.routes.specs.Sums.{month_sums, sums_refusal, monthly_sums}
use Rattle.lines.specs.declared.RowText.{RowText}
use Rattle.survey.specs.Survey.{row_answer, kept_answer}
use Rattle.group.specs.Group.{group_answers, group_read}
use Rattle.printout.specs.Printout.{printout}
use Rattle.printout.specs.Lines.{prepared_of}
use Rattle.cardline.specs.Cardline.{card_printout}
use Rattle.cardline.specs.Groups.{group_lines, lines_read}

-- two site files that are accepted and read alike, but for places without shares: no share of the one is above 0, and the other has zero shares and
-- figures; such are a file and what it is converted to, to either edition
pub record ReadAlike (before after : List ℕ) : Type 0 where
  pub accepted : site_refusal before ≡ 0
  pub accepted_after : site_refusal after ≡ 0
  pub home : AtHome (read_site before).scenario.dust_places
  pub same : (read_site after).scenario ≡ without_places (read_site before).scenario

-- each call answers of the files after what it answers of the files before; s is the number of steps a day
pub record SameCalls (before after : Files) : Type 0 where
  -- the site file's number and its 94 fields
  pub site_number : (read_site after.site).refusal ≡ (read_site before.site).refusal
  pub site_fields : (read_site after.site).scenario.fields ≡ (read_site before.site).scenario.fields
  -- why the files are refused, by their lengths and at all, and how many blocks of the book are decoded to read them
  pub lengths : length_refusal after ≡ length_refusal before
  pub refusal : files_refusal after ≡ files_refusal before
  pub decodes : files_decodes after ≡ files_decodes before
  -- birth; a month of any state; a run into a list of any length: the refusal, the state with its ledgers, the blood figures
  pub birth : birth_of after ≡ birth_of before
  pub month : (s : ℕ) (a : State) → month_of s a after ≡ month_of s a before
  pub run : (s places : ℕ) → run_of s after places ≡ run_of s before places
  -- the sums of the two gut routes in any month, why it has none, and those that are kept
  pub sums : (m : ℕ) → month_sums after m ≡ month_sums before m
  pub sums_none : (m : ℕ) → sums_refusal after m ≡ sums_refusal before m
  pub sums_kept : monthly_sums after ≡ monthly_sums before
  -- a row of a batch card, also of what is kept of it; and a group of rows of any text, with the count of decoded blocks
  pub row : (s : ℕ) (bytes : List ℕ) → row_answer s after bytes ≡ row_answer s before bytes
  pub row_kept : (s : ℕ) (kept : RowText) → kept_answer s after kept ≡ kept_answer s before kept
  pub group : (s : ℕ) (text : List ℕ) → group_answers s after text ≡ group_answers s before text
  pub read : (text : List ℕ) → group_read after text ≡ group_read before text
  -- the printout of a run, and what is kept for its lines
  pub page : printout after ≡ printout before
  pub page_kept : prepared_of after ≡ prepared_of before
  -- the printout of a card's text, and the lines of the rows on a roll with their bytes and the count of decoded blocks
  pub card_page : (text : List ℕ) → card_printout after text ≡ card_printout before text
  pub card_lines : (n : ℕ) (roll : List ℕ) → group_lines after n roll ≡ group_lines before n roll
  pub card_read : (n : ℕ) (roll : List ℕ) → lines_read after n roll ≡ lines_read before n roll

-- the files of a call: a site file, a foods block or none, a rate book
abbrev pub files_from : List ℕ → FoodsFile → List ℕ → Files
files_from site foods book = record { site = site; foods = foods; book = book }

-- one site file answers as another, with any foods block or none and any book
abbrev pub SameAnswers : List ℕ → List ℕ → Type 0
SameAnswers before after = (foods : FoodsFile) (book : List ℕ) → SameCalls (files_from before foods book) (files_from after foods book)

-- files that are read alike answer the same
abbrev pub SameLaw : Type 0
SameLaw = (before after : List ℕ) → ReadAlike before after → SameAnswers before after

-- so a file that is converted to edition 2, or to edition 1, answers as before
abbrev pub UpSame : Type 0
UpSame = (site target : List ℕ) → to_second_refusal site target ≡ 0 → SameAnswers site (to_second site target)

abbrev pub DownSame : Type 0
DownSame = (site target : List ℕ) → to_first_refusal site target ≡ 0 → SameAnswers site (to_first site target)
