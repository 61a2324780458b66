-- What reading a call's files answers: a refusal, or 0 and the scenario; and how many blocks of the book were decoded.
-- Assumes nothing.
use Rattle.std.specs.Prelude.{ℕ}
use Rattle.site.specs.declared.Scenario.{Scenario}

pub record FilesRead : Type 0 where
  pub refusal : ℕ
  pub decodes : ℕ
  pub scenario : Scenario
