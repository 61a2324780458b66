-- What reading a site file answers: 0 and its scenario, or a refusal and the blank one.
-- Assumes nothing.
use Rattle.std.specs.Prelude.{ℕ}
use Rattle.site.specs.declared.Scenario.{Scenario}

pub record SiteRead : Type 0 where
  pub refusal : ℕ
  pub scenario : Scenario
