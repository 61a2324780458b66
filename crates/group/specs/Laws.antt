-- The law of a group of rows.
-- Assumes nothing.
use Rattle.std.specs.Prelude.{List, ℕ}
use Rattle.files.specs.Files.{Files}
use Rattle.files.specs.Laws.{Counted}
use Rattle.group.specs.Group.{group_read}

-- the count of a group is that of its files, whatever its rows are: all of them refused or skipped, and none at all
abbrev pub DecodesLaw : Type 0
DecodesLaw = (f : Files) (text : List ℕ) → Counted f (group_read f text).decodes
