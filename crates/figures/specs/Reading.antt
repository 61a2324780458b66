-- What a field may say.
-- Assumes nothing.
use Rattle.std.specs.Prelude.{ℕ}

-- an asterisk, a figure, or neither
pub data Reading : Type 0 where
  Missing : Reading
  Figure : (n : ℕ) → Reading
  Wrong : Reading
