-- A walk by what the code answers of it and where its reader is then.
-- Assumes nothing.
use Rattle.std.specs.Prelude.{true, false, Option, None, Some}
use Rattle.lines.specs.declared.RowText.{RowText}
use Rattle.lines.specs.declared.Reader.{Reader}
use Rattle.lines.specs.declared.Passed.{Passed}
use Rattle.lines.specs.Walk.{Walk}

-- what there is of a row that goes on is the reader's
abbrev pub walk_by : Option RowText → Passed → Reader → Walk
walk_by None p r = record { used = p.used; ended = false; row = r.row; reader = r }
walk_by (Some row) p r = record { used = p.used; ended = true; row = row; reader = r }

abbrev pub walk_with : Passed → Reader → Walk
walk_with p r = walk_by p.row p r
