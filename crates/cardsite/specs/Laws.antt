-- The laws of a card over a site file's fields.
-- Assumes nothing.
use Rattle.std.specs.Prelude.{◌≡◌, false, List, ℕ, ◌≤◌, length}
use Rattle.site.specs.declared.Scenario.{Scenario}
use Rattle.site.specs.Fields.{last_age, field_count}
use Rattle.site.specs.Limits.{PlacesWithin}
use Rattle.site.specs.Scenario.{mother_of}
use Rattle.site.specs.Laws.{Fits}
use Rattle.exposure.specs.Exposure.{exposure_at}
use Rattle.exposure.specs.Limits.{ExposureLimits}
use Rattle.card.specs.declared.Card.{Card}
use Rattle.card.specs.RowRead.{RowRead}
use Rattle.cardsite.specs.Start.{Runs, start_of}
use Rattle.cardsite.specs.Over.{over_limit}
use Rattle.cardsite.specs.Running.{Running}
use Rattle.cardsite.specs.Fields.{row_fields, row_scenario}
use Rattle.cardsite.specs.RowExposure.{row_exposure}

-- a row's card that runs is not skipped, none of its figures is over its limit, and it has an AGE from 1 to 84 months
abbrev pub RunsWithin : Type 0
RunsWithin = (r : RowRead) (c : Card) → start_of r ≡ Runs c → Running c

-- fields that fit, under a card that passes its 7, fit
abbrev pub RowFits : Type 0
RowFits = (c : Card) → over_limit c ≡ false → (fields : List ℕ) → Fits fields → Fits (row_fields c fields)

-- so a row's exposures are within the limits at each age, as an accepted file's are
abbrev pub RowWithin : Type 0
RowWithin =
    (c : Card) → over_limit c ≡ false → (s : Scenario) → Fits s.fields → PlacesWithin s.dust_places → (age : ℕ)
    → age ≤ last_age → ExposureLimits (exposure_at (row_scenario c s) age)

-- a row changes the exposure of each age by its figures alone
abbrev pub RowExposures : Type 0
RowExposures =
    (c : Card) (s : Scenario) → length s.fields ≡ field_count → (age : ℕ) → age ≤ last_age
    → exposure_at (row_scenario c s) age ≡ row_exposure c (exposure_at s age)

-- and the mother's blood lead not at all
abbrev pub RowMother : Type 0
RowMother = (c : Card) (s : Scenario) → length s.fields ≡ field_count → mother_of (row_scenario c s) ≡ mother_of s
