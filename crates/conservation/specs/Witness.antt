-- Something is accepted: files whose birth, first month and whole run are accepted, with an uptake that is not 0; and something is refused, at each block
-- of a book: so that no law speaks of nothing.
-- Assumes nothing.
use Rattle.std.specs.Prelude.{ℕ, ◌*◌, ◌/◌, ◌%◌, ◌<◌, ◌≡◌, cond, List, [], ◌∷◌, ◌++◌, get_or, replicate, eqb}
use Rattle.numbers.specs.Choice.{tab}
use Rattle.block.specs.Block.{byte_at, block_bytes}
use Rattle.block.specs.Writer.{sealed, body_of}
use Rattle.site.specs.Fields.{ages}
use Rattle.site.specs.declared.edition.Edition.TheVariants.{First, Second}
use Rattle.site.specs.DustPlaces.{no_places}
use Rattle.site.specs.Site.{site_refusal}
use Rattle.site.specs.Written.{site_body}
use Rattle.intake.specs.Bench.{worked_places}
use Rattle.foods.specs.Foods.{foods_refusal}
use Rattle.foods.specs.Laws.{foods_body}
use Rattle.diet.specs.Bench.{worked_foods}
use Rattle.row.specs.Row.{unit, numbers_a_row, last_month}
use Rattle.book.specs.Book.{book_blocks, book_bytes, table_numbers, book_form, book_refusal}
use Rattle.book.specs.Laws.{block_part}
use Rattle.steps.specs.Steps.{steps_a_day}
use Rattle.child.specs.Month.{month_uptake}
use Rattle.files.specs.Files.{Files, files_of, files_with, scenario_in, table_in}
use Rattle.files.specs.Laws.{BlockRefused}
use Rattle.engine.specs.Birth.{birth_of}
use Rattle.engine.specs.Month.{month_of}
use Rattle.engine.specs.Run.{run_of}

-- a diet of 2,700,000 pg a day, all of it absorbable and 20 % passively, a saturation of 24,300,000 and a mother with 1,000; all else 0
unfoldable pub witness_fields : List ℕ
witness_fields =
    replicate (4 * ages) 0
    ++ (replicate ages 2_700_000
    ++ (replicate (5 * ages) 0
    ++ (replicate 12 0 ++ (100 ∷ 0 ∷ 0 ∷ 0 ∷ 0 ∷ 20 ∷ 0 ∷ 0 ∷ 0 ∷ 0 ∷ 24_300_000 ∷ 1_000 ∷ []))))

-- every row of the book: VB 2,000, VP 1,000, W 12,000, kidney 20 g, a1 = 1, au = D; all else 0
unfoldable pub witness_row : List ℕ
witness_row =
    2_000
    ∷ 1_000
    ∷ 12_000
    ∷ 20
    ∷ 0
    ∷ 0
    ∷ 0
    ∷ 0
    ∷ 1
    ∷ 0
    ∷ 0
    ∷ 0
    ∷ 0
    ∷ 0
    ∷ unit
    ∷ 0
    ∷ 0
    ∷ 0
    ∷ 0
    ∷ 0
    ∷ 0
    ∷ 0
    ∷ 0
    ∷ []

unfoldable pub witness_table : List ℕ
witness_table = tab table_numbers (λ (j : ℕ). get_or witness_row (j % numbers_a_row) 0)

-- the bytes: fields and rows laid out and sealed, block by block
unfoldable pub witness_block : ℕ → List ℕ
witness_block n = sealed (body_of (book_form n) (block_part witness_table n))

unfoldable pub witness_site : List ℕ
witness_site = sealed (site_body First witness_fields no_places)

-- and in edition 2, with five places whose shares are 100 together
unfoldable pub second_site : List ℕ
second_site = sealed (site_body Second witness_fields worked_places)

-- a book of these blocks
unfoldable pub book_of : (ℕ → List ℕ) → List ℕ
book_of blocks = tab book_bytes (λ (j : ℕ). byte_at (blocks (j / block_bytes)) (j % block_bytes))

unfoldable pub witness_book : List ℕ
witness_book = book_of witness_block

abbrev pub witness_files : Files
witness_files = files_of witness_site witness_book

-- and with the foods of the worked diet, 11,085 pg a day at age 0
unfoldable pub witness_foods : List ℕ
witness_foods = sealed (foods_body worked_foods)

abbrev pub fed_files : Files
fed_files = files_with witness_site witness_foods witness_book

-- they are accepted, by the readers, at birth, in the first month, whose T is not 0, and in a run of 84 months; with the foods too
pub record SomethingAccepted : Type 0 where
  pub site : site_refusal witness_site ≡ 0
  pub second_site : site_refusal second_site ≡ 0
  pub book : book_refusal witness_book ≡ 0
  pub birth : (birth_of witness_files).refusal ≡ 0
  pub month : (month_of steps_a_day (birth_of witness_files).state witness_files).refusal ≡ 0
  pub uptake : month_uptake (scenario_in witness_files) (table_in witness_files) 1 ≡ 2_484_000
  pub run : (run_of steps_a_day witness_files last_month).refusal ≡ 0
  pub foods : foods_refusal witness_foods ≡ 0
  pub fed_birth : (birth_of fed_files).refusal ≡ 0
  pub fed_month : (month_of steps_a_day (birth_of fed_files).state fed_files).refusal ≡ 0
  pub fed_uptake : month_uptake (scenario_in fed_files) (table_in fed_files) 1 ≡ 11_080
  pub fed_run : (run_of steps_a_day fed_files last_month).refusal ≡ 0

-- the same files with zeros in place of block n of the book
abbrev pub wiped_block : ℕ → ℕ → List ℕ
wiped_block n i = cond (eqb i n) (replicate block_bytes 0) (witness_block i)

abbrev pub wiped_files : ℕ → Files
wiped_files n = files_of witness_site (book_of (wiped_block n))

-- block n of them is refused, for each n: so each count of decoded blocks comes
abbrev pub SomethingRefused : Type 0
SomethingRefused = (n : ℕ) → n < book_blocks → BlockRefused (wiped_files n) n
