-- The laws of the printout.
-- Assumes nothing.
use Rattle.std.specs.Prelude.{◌≡◌, ℕ, suc, ◌+◌, List, take}
use Rattle.block.specs.Block.{block_bytes}
use Rattle.book.specs.Book.{book_bytes}
use Rattle.files.specs.Files.{Files, files_of}
use Rattle.row.specs.Row.{last_month}
use Rattle.printout.specs.Printout.{printout}
use Rattle.printout.specs.Lines.{prepared_of, line_at, lines_from}

-- a printout is its lines 0 to 84
abbrev pub LinesLaw : Type 0
LinesLaw = (f : Files) → printout f ≡ lines_from (line_at (prepared_of f)) 0 (suc last_month)

-- a longer file is refused by its length: one byte past each format is enough to read
abbrev pub FirstBytesLaw : Type 0
FirstBytesLaw = (site book : List ℕ) → printout (files_of (take (block_bytes + 1) site) (take (book_bytes + 1) book)) ≡ printout (files_of site book)
