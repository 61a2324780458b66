-- The rows of a text on the roll.
-- Assumes nothing.
use Rattle.std.specs.Prelude.{ℕ}

pub record RowsTaken : Type 0 where
  pub count : ℕ
  -- where the row after them starts, or the text's length
  pub next : ℕ
