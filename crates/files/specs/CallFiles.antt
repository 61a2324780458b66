-- The files of a call, as a call is handed them.
-- Assumes nothing.
use Rattle.std.specs.Prelude.{ℕ, List, Option, None, Some}
use Rattle.std.specs.Borrow.{Bor}
use Rattle.files.specs.declared.CallFiles.{CallFiles}
use Rattle.files.specs.Files.{FoodsFile, none, handed, Files}

abbrev pub foods_in : Option (Bor (List ℕ)) → FoodsFile
foods_in None = none
foods_in (Some foods) = handed foods.now

abbrev pub files_in : CallFiles → Files
files_in f = record { site = f.site.now; foods = foods_in f.foods; book = f.book.now }
