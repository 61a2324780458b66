-- The exposures of fields within their limits, and so of an accepted site file, are within theirs.
-- Assumes nothing.
use mathlib.Core.Path.{◌≡◌, refl}
use mathlib.Core.Bool.{true}
use mathlib.Core.List.{List}
use Prim.Native.Nat.{ℕ, ◌+◌, ◌*◌, ◌≤◌, ◌<◌}
use native.Mathlib.Omega.{arith}
use lib.ListN.{get_or}
use lib.Dec.{leb}
use Rattle.numbers.specs.Choice.{every}
use Rattle.numbers.proofs.Every.{get_or-tab}
use Rattle.numbers.proofs.Lists.{each_get_or}
use Rattle.site.specs.declared.Scenario.{Scenario}
use Rattle.site.specs.Fields.{last_age, ages, singles_at, singles, at, limits, by_age, diet_group, single, fields_fit}
use Rattle.site.specs.Limits.{PlacesWithin}
use Rattle.site.specs.Scenario.{diets_in, scenario_of, with_diets}
use Rattle.site.specs.Site.{site_fields, read_site}
use Rattle.site.proofs.FieldsWithin.{field_le, range_le, saturation_ge, shares_le, accepted_within, accepted_scenario, accepted_fit, accepted_places}
use Rattle.exposure.specs.Exposure.{percentages_from, exposure_at}
use Rattle.exposure.specs.Limits.{ExposureLimits}
use Rattle.exposure.specs.Laws.{ExposureWithin, OwnDietWithin}

module _ (fields : List ℕ) (fit : fields_fit fields ≡ true) where
  -- a field that each age has, by the limit of its group
  group_le : (group v : ℕ) → every (λ (place : ℕ). leb (at limits place) v) (ages * group) ages ≡ true → group < 10 → (age : ℕ) → age ≤ last_age
      → at fields (ages * group + age) ≤ v
  group_le group v e room age h = range_le fields fit v (ages * group) ages e (omega arith) (ages * group + age) (omega arith) (omega arith)

  -- a field that stands singly
  single_le : (k : ℕ) → k < singles → single fields k ≤ single limits k
  single_le k h = field_le fields fit (singles_at + k) (omega arith)

  -- five percentages that stand singly, from k on
  percentage_le : (k : ℕ) → every (λ (place : ℕ). leb (at limits place) 100) (singles_at + k) 5 ≡ true → k + 4 < singles → (medium : ℕ) → medium < 5
      → get_or (percentages_from fields k) medium 0 ≤ 100
  percentage_le k e room medium h =
      let within : (place : ℕ) → k ≤ place → place < k + 5 → single fields place ≤ 100 =
      λ place a b. range_le fields fit 100 (singles_at + k) 5 e (omega arith) (singles_at + place) (omega arith) (omega arith) in
      each_get_or (λ p. p ≤ 100) (omega arith) (percentages_from fields k) (
        within k (omega arith) (omega arith),
        (
          within (k + 1) (omega arith) (omega arith),
          (within (k + 2) (omega arith) (omega arith), (within (k + 3) (omega arith) (omega arith), (within (k + 4) (omega arith) (omega arith), tt))),
        ),
      )
      medium

-- of a scenario whose fields and places are within their limits
pub exposure_within : (s : Scenario) → fields_fit s.fields ≡ true → PlacesWithin s.dust_places → (age : ℕ) → age ≤ last_age → ExposureLimits (exposure_at s age)
unfolding exposure_at limits every
exposure_within s fit places age h =
    let f = s.fields in
    record {
      air = group_le f fit 0 100_000_000 refl (omega arith) age h;
      hours = group_le f fit 1 24 refl (omega arith) age h;
      breathing = group_le f fit 2 100_000 refl (omega arith) age h;
      absorption = group_le f fit 3 100 refl (omega arith) age h;
      water = group_le f fit 5 10_000 refl (omega arith) age h;
      soil = group_le f fit 6 50_000_000 refl (omega arith) age h;
      dust = group_le f fit 7 50_000_000 refl (omega arith) age h;
      places = places;
      eaten = group_le f fit 8 1_000 refl (omega arith) age h;
      alternate = group_le f fit 9 1_000_000_000 refl (omega arith) age h;
      indoor = single_le f fit 0 (omega arith);
      weight = single_le f fit 1 (omega arith);
      contribution = single_le f fit 2 (omega arith);
      factor = single_le f fit 3 (omega arith);
      constant = single_le f fit 6 (omega arith);
      flushed = single_le f fit 7 (omega arith);
      first = single_le f fit 8 (omega arith);
      fountain = single_le f fit 9 (omega arith);
      shares = shares_le f fit;
      absorbed = percentage_le f fit 12 refl (omega arith);
      passive = percentage_le f fit 17 refl (omega arith);
      saturation_least = saturation_ge f fit;
      saturation_most = single_le f fit 22 (omega arith);
    }

pub exposure_accepted : ExposureWithin
exposure_accepted site diets passed age h = exposure_within (with_diets diets (read_site site).scenario) (accepted_fit site passed) (accepted_places site passed) age h

-- the diets of fields within their limits
diet_le : (fields : List ℕ) → fields_fit fields ≡ true → (age : ℕ) → age ≤ last_age → at (diets_in fields) age ≤ 1_000_000_000
unfolding limits every
diet_le fields fit age h =
    rw (get_or-tab ages (by_age fields diet_group) age (omega arith)) (group_le fields fit diet_group 1_000_000_000 refl (omega arith) age h)

pub diet_accepted : OwnDietWithin
unfolding exposure_at scenario_of
diet_accepted site passed age h = rw (accepted_scenario site passed) (diet_le (site_fields site) (accepted_within site passed).fields_fit age h)
