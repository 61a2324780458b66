-- The laws of a call's files: how often a block of the book is decoded to read them (document 02, [5]).
-- Assumes nothing.
use Rattle.std.specs.Prelude.{◌≡◌, ℕ, ◌+◌, ◌≤◌, length}
use Rattle.block.specs.Block.{block_bytes}
use Rattle.site.specs.Site.{site_refusal}
use Rattle.book.specs.Book.{book_bytes}
use Rattle.book.specs.Laws.{RefusedAt}
use Rattle.files.specs.Files.{Files, foods_refusal_in, before_book_refusal, files_refusal, files_decodes}

-- block n of the book is refused, and nothing before the book's blocks
pub record BlockRefused (f : Files) (n : ℕ) : Type 0 where
  pub none_before : before_book_refusal f ≡ 0
  pub block : RefusedAt f.book n

-- THE COUNT of a reading of these files, how often it decodes a block of the book
pub record Counted (f : Files) (count : ℕ) : Type 0 where
  -- exactly 17 if the book is accepted, n + 1 if its block n is refused
  pub accepted : files_refusal f ≡ 0 → count ≡ 17
  pub block_refused : (n : ℕ) → BlockRefused f n → count ≡ n + 1
  -- 0 on a refusal before its blocks: a wrong length of the site file, of the book, the site file's numbers, a foods block's
  pub before_blocks : (before_book_refusal f ≡ 0 → ⊥) → count ≡ 0
  pub site_length : (length f.site ≡ block_bytes → ⊥) → count ≡ 0
  pub book_length : (length f.book ≡ book_bytes → ⊥) → count ≡ 0
  pub site_refused : (site_refusal f.site ≡ 0 → ⊥) → count ≡ 0
  pub foods_refused : (foods_refusal_in f.foods ≡ 0 → ⊥) → count ≡ 0
  -- so at most 17
  pub at_most : count ≤ 17

abbrev pub DecodesLaw : Type 0
DecodesLaw = (f : Files) → Counted f (files_decodes f)

-- every reading ends in one of the three ways
pub data Ends (f : Files) : Type 0 where
  accepted : files_refusal f ≡ 0 → Ends f
  block_refused : (n : ℕ) → BlockRefused f n → Ends f
  before_blocks : (before_book_refusal f ≡ 0 → ⊥) → Ends f

abbrev pub EndsLaw : Type 0
EndsLaw = (f : Files) → Ends f
