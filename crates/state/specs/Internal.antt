-- For the contracts between the functions: where sums stop. No open call's contract needs it.
-- Assumes nothing.
use Rattle.std.specs.Prelude.{ℕ}

-- the cap of sums, 2^62: far above every limit and far below what 64 bits hold
abbrev pub cap : ℕ
cap = 0x4000_0000_0000_0000
