-- The laws of the exposures.
-- Assumes nothing.
use Rattle.std.specs.Prelude.{◌≡◌, List, ℕ, ◌≤◌}
use Rattle.site.specs.Fields.{last_age}
use Rattle.site.specs.Scenario.{with_diets}
use Rattle.site.specs.Site.{site_refusal, read_site}
use Rattle.exposure.specs.Exposure.{exposure_at}
use Rattle.exposure.specs.Limits.{ExposureLimits}

-- the exposure of each age of an accepted file is within the limits, whatever the diets are
abbrev pub ExposureWithin : Type 0
ExposureWithin =
    (site diets : List ℕ) → site_refusal site ≡ 0 → (age : ℕ) → age ≤ last_age → ExposureLimits (exposure_at (with_diets diets (read_site site).scenario) age)

-- the file's own diet is at most 10^9
abbrev pub OwnDietWithin : Type 0
OwnDietWithin = (site : List ℕ) → site_refusal site ≡ 0 → (age : ℕ) → age ≤ last_age → (exposure_at (read_site site).scenario age).diet ≤ 1_000_000_000
