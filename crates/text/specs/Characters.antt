-- Characters that are no digits, as bytes.
-- Assumes nothing.
use Rattle.std.specs.Prelude.{ℕ}

abbrev pub line_feed : ℕ
line_feed = 10

abbrev pub space : ℕ
space = 32

abbrev pub star : ℕ
star = 42

abbrev pub point : ℕ
point = 46
