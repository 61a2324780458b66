-- What reading a book answers: a refusal or 0, and how many of its blocks were decoded.
-- Assumes nothing.
use Rattle.std.specs.Prelude.{ℕ}

pub record BookRead : Type 0 where
  pub refusal : ℕ
  pub decodes : ℕ
