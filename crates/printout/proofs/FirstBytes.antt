-- A file of a wrong length prints one line, and the first bytes of a file are enough to see it.
-- Assumes nothing.
use mathlib.Core.Path.{◌≡◌}
use Prim.Native.Nat.{ℕ}
use mathlib.Core.List.{List}
use lib.ListN.{length}
use Rattle.row.specs.Row.{last_month}
use Rattle.book.specs.Book.{book_bytes}
use Rattle.files.specs.Files.{Files, length_refusal, files_of}
use Rattle.files.proofs.FirstBytes.{book_length, first_bytes}
use Rattle.engine.specs.Run.{start_refusal, run_of}
use Rattle.printout.specs.Printout.{month_lines, refused_line, printout_of, printout}
use Rattle.printout.specs.Laws.{FirstBytesLaw}

-- a file of a wrong length refuses the start with 1
start_refused : (f : Files) → length_refusal f ≡ 1 → start_refusal f last_month ≡ 1
unfolding start_refusal
start_refused f e = rw e

-- and prints the last line alone
length-printed : (f : Files) → length_refusal f ≡ 1 → printout f ≡ refused_line 1 0
unfolding printout_of run_of month_lines
length-printed f e = rw (start_refused f e)

pub book_printed : (site book : List ℕ) → (length book ≡ book_bytes → ⊥) → printout (files_of site book) ≡ refused_line 1 0
book_printed site book h = length-printed (files_of site book) (book_length site book h)

pub first_bytes_law : FirstBytesLaw
first_bytes_law = first_bytes printout (refused_line 1 0) length-printed
