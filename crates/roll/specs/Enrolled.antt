-- Where reading on has led.
-- Assumes nothing.
use Rattle.std.specs.Prelude.{ℕ}
use Rattle.lines.specs.declared.Reader.{Reader}

pub record Enrolled : Type 0 where
  pub reader : Reader
  -- bytes of the piece
  pub used : ℕ
  -- rows on the roll
  pub count : ℕ
