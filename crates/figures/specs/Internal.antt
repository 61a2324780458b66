-- For the contracts between the functions: how large the numbers of a field of at most 8 bytes are. No open call's contract needs it.
-- Assumes nothing.
use Rattle.std.specs.Prelude.{ℕ, ◌+◌, ◌*◌}

-- the largest units, whole numbers, their thousandths, and sums of two of these
abbrev pub most_unit : ℕ
most_unit = 1_000

abbrev pub most_whole : ℕ
most_whole = 99_999_999

abbrev pub most_part : ℕ
most_part = most_whole * most_unit

abbrev pub most_sum : ℕ
most_sum = most_part + most_part
