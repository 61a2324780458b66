-- A known sensitivity (document 02, [6]): if one medium's q rises by h with all else equal, the day's uptake T moves by no less than −4
-- and no more than h + 4 pg; and by no more than h.
-- Assumes nothing.
use Rattle.std.specs.Prelude.{◌≡◌, ℕ, ◌+◌, ◌≤◌, ◌<◌}
use Rattle.exposure.specs.declared.Exposure.{Exposure}
use Rattle.exposure.specs.Limits.{ExposureLimits}
use Rattle.site.specs.Fields.{at}
use Rattle.uptake.specs.Laws.{Weights}
use Rattle.uptake.specs.Uptake.{saturation_of, absorbable, air_uptake, day_uptake}
use Rattle.uptake.specs.Media.{day_from}

-- of so many media, one has its q risen by h, and the others have theirs
pub record OneRises (media : ℕ) (q q' : ℕ → ℕ) (h medium : ℕ) : Type 0 where
  pub place : medium < media
  pub risen : q' medium ≡ q medium + h
  pub others : (other : ℕ) → other < media → (other ≡ medium → ⊥) → q' other ≡ q other

-- T moves by no less than −4 and no more than h + 4; and no more than h is gained
pub record Moves (h before after : ℕ) : Type 0 where
  pub least : before ≤ after + 4
  pub most : after ≤ before + (h + 4)
  pub gain : after ≤ before + h

-- of the five eaten media's q, their passive percentages, SAT and the uptake of air
abbrev pub SensitivityLaw : Type 0
SensitivityLaw =
    (q q' percents : ℕ → ℕ) (sat air h medium : ℕ)
    → OneRises 5 q q' h medium → ((other : ℕ) → other < 5 → percents other ≤ 100) → 0 < sat
    → Moves h (day_from 5 q percents sat air) (day_from 5 q' percents sat air)

-- T of an exposure is that of its q, their passive percentages, SAT and the uptake of air
abbrev pub OwnQLaw : Type 0
OwnQLaw =
    (e : Exposure) (weight weight24 : ℕ)
    → day_uptake e weight weight24 ≡ day_from 5 (absorbable e) (at e.passive) (saturation_of e weight weight24) (air_uptake e)

-- all else equal: what T is made of beside the q
pub record AllElseEqual (e e' : Exposure) : Type 0 where
  pub passive : e'.passive ≡ e.passive
  pub saturation : e'.saturation ≡ e.saturation
  pub air : air_uptake e' ≡ air_uptake e

-- so it holds of the day's uptakes of two exposures
abbrev pub ExposureLaw : Type 0
ExposureLaw =
    (e e' : Exposure) (weight weight24 h medium : ℕ)
    → ExposureLimits e → Weights weight weight24 → OneRises 5 (absorbable e) (absorbable e') h medium → AllElseEqual e e'
    → Moves h (day_uptake e weight weight24) (day_uptake e' weight weight24)
