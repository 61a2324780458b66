-- Files that are not refused have a site file and a book that are not; and their refusals are from the input.
-- Assumes nothing.
use Prim.Native.Nat.{ℕ}
use mathlib.Core.Path.{◌≡◌}
use lib.ListN.{get_or}
use native.Mathlib.Omega.{arith}
use Rattle.numbers.proofs.Refusals.{first_of_none, OfInput, unless_of_input, first_of_of_input}
use Rattle.site.specs.Site.{site_refusal}
use Rattle.site.proofs.FieldsWithin.{site_of_input}
use Rattle.foods.proofs.FiguresWithin.{foods_of_input}
use Rattle.book.specs.Book.{book_refusal}
use Rattle.book.proofs.RowsWithin.{book_of_input}
use Rattle.files.specs.Files.{FoodsFile, none, handed, Files, foods_refusal_in, before_book_refusals, before_book_refusal, files_refusals, files_refusal}

module _ (f : Files) (passed : files_refusal f ≡ 0) where
  passed_at : (k : ℕ) → get_or (files_refusals f) k 0 ≡ 0
  unfolding files_refusal
  passed_at = first_of_none (files_refusals f) passed

  pub book_passed : book_refusal f.book ≡ 0
  book_passed = passed_at 1

  before_book_at : (k : ℕ) → get_or (before_book_refusals f) k 0 ≡ 0
  unfolding before_book_refusal
  before_book_at = first_of_none (before_book_refusals f) (passed_at 0)

  pub site_passed : site_refusal f.site ≡ 0
  site_passed = before_book_at 1

foods_in_of_input : (file : FoodsFile) → OfInput (foods_refusal_in file)
foods_in_of_input none = omega arith
foods_in_of_input (handed foods) = foods_of_input foods

before_book_of_input : (f : Files) → OfInput (before_book_refusal f)
unfolding before_book_refusal
before_book_of_input f = first_of_of_input (before_book_refusals f) (unless_of_input _ 1 (omega arith), (site_of_input f.site, (foods_in_of_input f.foods, tt)))

pub files_of_input : (f : Files) → OfInput (files_refusal f)
unfolding files_refusal
files_of_input f = first_of_of_input (files_refusals f) (before_book_of_input f, (book_of_input f.book, tt))
