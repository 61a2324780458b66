-- For the contracts between the functions: how many bytes lines have. No open call's contract needs it.
-- Assumes nothing.
use Rattle.std.specs.Prelude.{ℕ, ◌*◌}
use Rattle.roll.specs.Words.{rows_a_group}

-- the bytes that every line fits in, and those of a group
abbrev pub line_bytes : ℕ
line_bytes = 19

abbrev pub group_bytes : ℕ
group_bytes = line_bytes * rows_a_group
