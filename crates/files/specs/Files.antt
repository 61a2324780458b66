-- A call's files, and why they are refused (document 01, "Calls and refusal numbers"; a foods block by document 02, [1]).
-- Assumes nothing.
use Rattle.std.specs.Prelude.{ℕ, Bool, true, false, ◌&&◌, List, [], ◌∷◌, length, eqb}
use Rattle.numbers.specs.Choice.{unless, first_of, answer_by}
use Rattle.site.specs.declared.Scenario.{Scenario}
use Rattle.site.specs.Scenario.{with_diets}
use Rattle.site.specs.Site.{site_refusal, read_site}
use Rattle.foods.specs.Foods.{foods_refusal, foods_figures}
use Rattle.diet.specs.Diet.{diets_of}
use Rattle.block.specs.Block.{block_bytes}
use Rattle.book.specs.Book.{book_bytes, book_refusal, book_decodes, book_table}

-- a foods block that a call is handed, as bytes of any length, or none
pub data FoodsFile : Type 0 where
  none : FoodsFile
  handed : List ℕ → FoodsFile

abbrev pub foods_if : Bool → List ℕ → FoodsFile
foods_if false foods = none
foods_if true foods = handed foods

-- the files of a call, as bytes
pub record Files : Type 0 where
  pub site : List ℕ
  pub foods : FoodsFile
  pub book : List ℕ

-- without a foods block, with one, and with or without as `has` says
abbrev pub files_of : List ℕ → List ℕ → Files
files_of site book = record { site = site; foods = none; book = book }

abbrev pub files_with : List ℕ → List ℕ → List ℕ → Files
files_with site foods book = record { site = site; foods = handed foods; book = book }

abbrev pub files_if : Bool → List ℕ → List ℕ → List ℕ → Files
files_if has site foods book = record { site = site; foods = foods_if has foods; book = book }

-- 1: a wrong length, of the site file or of the book
abbrev pub length_refusal : Files → ℕ
length_refusal f = unless (eqb (length f.site) block_bytes && eqb (length f.book) book_bytes) 1

-- the foods block's own 1, 3 to 6, 10 and 11, if there is one
abbrev pub foods_refusal_in : FoodsFile → ℕ
foods_refusal_in none = 0
foods_refusal_in (handed foods) = foods_refusal foods

-- why files are refused before the book: 1, the site file's 3 to 7 and 13, the foods block's own
abbrev pub before_book_refusals : Files → List ℕ
before_book_refusals f = length_refusal f ∷ site_refusal f.site ∷ foods_refusal_in f.foods ∷ []

unfoldable pub before_book_refusal : Files → ℕ
before_book_refusal f = first_of (before_book_refusals f)

-- why files are refused: before the book, then each of its blocks in turn 3 to 6 and 8
abbrev pub files_refusals : Files → List ℕ
files_refusals f = before_book_refusal f ∷ book_refusal f.book ∷ []

unfoldable pub files_refusal : Files → ℕ
files_refusal f = first_of (files_refusals f)

-- how many blocks of the book are decoded to read the files: none if they are refused before the book
unfoldable pub files_decodes : Files → ℕ
files_decodes f = answer_by (before_book_refusal f) (book_decodes f.book) (λ r. 0)

-- the diets of a foods block, if there is one, else the site file's own
abbrev pub diets_with : FoodsFile → List ℕ → List ℕ
diets_with none own = own
diets_with (handed foods) own = diets_of (foods_figures foods)

-- the scenario of the site file with these diets, and the table of the book's rows
abbrev pub with_foods : FoodsFile → Scenario → Scenario
with_foods file s = with_diets (diets_with file s.diets) s

abbrev pub scenario_in : Files → Scenario
scenario_in f = with_foods f.foods (read_site f.site).scenario

abbrev pub table_in : Files → List ℕ
table_in f = book_table f.book
