-- The fields of an accepted site file are within their limits, and its check is right.
-- Assumes nothing.
use mathlib.Core.Path.{◌≡◌, refl, ap, ◌∙◌}
use mathlib.Core.Bool.{true, ◌&&◌}
use mathlib.Core.List.{List}
use Prim.Native.Nat.{ℕ, ◌+◌, ◌≤◌, ◌<◌}
use native.Mathlib.Nat.{le_trans}
use native.Mathlib.Omega.{arith}
use lib.ListN.{length, get_or}
use lib.Dec.{leb}
use borrow.Author.Tests.{leb-true, eqb-true}
use Rattle.numbers.specs.Choice.{every}
use Rattle.numbers.proofs.Every.{and_left, and_right, every-at, length-tab}
use Rattle.numbers.proofs.Refusals.{first_of_none, unless_none, answer_number, OfInput, unless_of_input, first_of_of_input}
use Rattle.block.specs.Block.{block_bytes, block_refusal, numbers_from}
use Rattle.block.proofs.BlockRefusals.{block_of_input}
use Rattle.block.proofs.Sealed.{accepted_check}
use Rattle.site.specs.declared.edition.Edition.{Edition}
use Rattle.site.specs.declared.Scenario.{Scenario}
use Rattle.site.specs.SiteRead.{SiteRead}
use Rattle.site.specs.Fields.{field_count, singles_at, mother_at, at, limits, first_draw_share_in, fountain_share_in, saturation_in, within_limits, saturation_fits, shares_fit, fields_fit}
use Rattle.site.specs.DustPlaces.{places_fit}
use Rattle.site.specs.Limits.{PlacesWithin}
use Rattle.site.specs.Scenario.{scenario_of}
use Rattle.site.specs.Site.{site_form, site_fields, site_places, edition_due, site_refusals_as, site_refusal_as, site_refusal, read_as, refused_with, read_site_as, read_site}
use Rattle.site.specs.Laws.{MotherWithin, RightCheck, Fits, Within}
use Rattle.site.proofs.FieldTests.{field_within}
use Rattle.site.proofs.PlaceLimits.{places_within}

module _ (fields : List ℕ) (fit : fields_fit fields ≡ true) where
  -- each field is at most its limit
  pub field_le : (place : ℕ) → place < field_count → at fields place ≤ at limits place
  unfolding fields_fit within_limits
  field_le place h =
      leb-true (at fields place) (at limits place)
      (every-at (field_within fields) 0 field_count (and_left (within_limits fields) (saturation_fits fields && shares_fit fields) fit) place (omega arith) (omega arith))

  rules : saturation_fits fields && shares_fit fields ≡ true
  unfolding fields_fit
  rules = and_right (within_limits fields) (saturation_fits fields && shares_fit fields) fit

  pub saturation_ge : 1_000_000 ≤ saturation_in fields
  saturation_ge = leb-true 1_000_000 (saturation_in fields) (and_left (saturation_fits fields) (shares_fit fields) rules)

  pub shares_le : first_draw_share_in fields + fountain_share_in fields ≤ 100
  shares_le = leb-true (first_draw_share_in fields + fountain_share_in fields) 100 (and_right (saturation_fits fields) (shares_fit fields) rules)

  -- a field in a range of places whose limits are at most v, a test that is computed
  pub range_le : (v from n : ℕ) → every (λ (place : ℕ). leb (at limits place) v) from n ≡ true → from + n ≤ field_count
      → (place : ℕ) → from ≤ place → place < from + n → at fields place ≤ v
  range_le v from n e room place a b =
      le_trans (field_le place (omega arith))
      (leb-true (at limits place) v (every-at (λ (p : ℕ). leb (at limits p) v) from n e place a b))

module _ (edition : Edition) (site : List ℕ) where
  -- the refusal that is answered, and that an answer of the reader says
  pub read_refusal_as : (read_site_as edition site).refusal ≡ site_refusal_as edition site
  unfolding read_site_as read_as refused_with
  read_refusal_as =
      answer_number (read_as (site_fields site) (site_places site)) refused_with (λ (x : SiteRead). x.refusal) refl (λ n. refl)
      (site_refusal_as edition site)

  module _ (passed : site_refusal_as edition site ≡ 0) where
    none : (k : ℕ) → get_or (site_refusals_as edition site) k 0 ≡ 0
    unfolding site_refusal_as
    none = first_of_none (site_refusals_as edition site) passed

    pub block_passed : block_refusal site (site_form edition) ≡ 0
    block_passed = none 1

    pub long_passed : length site ≡ block_bytes
    long_passed = eqb-true _ _ (unless_none _ 1 (omega arith) (none 0))

    limits_passed : fields_fit (site_fields site) && places_fit (site_places site) ≡ true
    limits_passed = unless_none _ 7 (omega arith) (none 2)

    -- an accepted file's fields and places are within their limits
    pub within_passed : Within (site_fields site) (site_places site)
    within_passed =
        record {
          fields_fit = and_left (fields_fit (site_fields site)) (places_fit (site_places site)) limits_passed;
          places_fit = and_right (fields_fit (site_fields site)) (places_fit (site_places site)) limits_passed;
          away_fits = unless_none _ 13 (omega arith) (none 3);
        }

    -- and its scenario is that of them
    pub scenario_as : (read_site_as edition site).scenario ≡ scenario_of (site_fields site) (site_places site)
    unfolding read_site_as read_as
    scenario_as = rw passed

module _ (site : List ℕ) where
  -- of the edition due
  pub read_refusal : (read_site site).refusal ≡ site_refusal site
  unfolding read_site site_refusal
  read_refusal = read_refusal_as (edition_due site) site

  module _ (passed : site_refusal site ≡ 0) where
    pub accepted_within : Within (site_fields site) (site_places site)
    unfolding site_refusal
    accepted_within = within_passed (edition_due site) site passed

    pub accepted_scenario : (read_site site).scenario ≡ scenario_of (site_fields site) (site_places site)
    unfolding read_site site_refusal
    accepted_scenario = scenario_as (edition_due site) site passed

    pub accepted_fit : fields_fit (read_site site).scenario.fields ≡ true
    unfolding scenario_of
    accepted_fit = ap (λ (s : Scenario). fields_fit s.fields) accepted_scenario ∙ accepted_within.fields_fit

    pub accepted_fits : Fits (read_site site).scenario.fields
    unfolding scenario_of numbers_from
    accepted_fits =
        record { long = ap (λ (s : Scenario). length s.fields) accepted_scenario ∙ length-tab field_count _; fit = accepted_fit }

    -- and so are its places
    pub accepted_places : PlacesWithin (read_site site).scenario.dust_places
    unfolding scenario_of
    accepted_places = rw accepted_scenario (places_within accepted_within)

pub mother_accepted : MotherWithin
unfolding limits
mother_accepted site passed = field_le (read_site site).scenario.fields (accepted_fit site passed) (singles_at + mother_at) (omega arith)

pub right_check : RightCheck
unfolding site_refusal
right_check site passed = accepted_check site (site_form (edition_due site)) (block_passed (edition_due site) site passed)

-- what an answer of the reader says of the refusal
pub site_refused : (site : List ℕ) (r : ℕ) → refused_with r ≡ read_site site → r ≡ site_refusal site
unfolding refused_with
site_refused site r e = ap (λ (x : SiteRead). x.refusal) e ∙ read_refusal site

pub site_accepted : (site : List ℕ) (s : Scenario) → ◌≡◌ {A = SiteRead} (record { refusal = 0; scenario = s }) (read_site site) → 0 ≡ site_refusal site
site_accepted site s e = ap (λ (x : SiteRead). x.refusal) e ∙ read_refusal site

-- a site file's refusals are from the input
pub site_of_input : (site : List ℕ) → OfInput (site_refusal site)
unfolding site_refusal site_refusal_as
site_of_input site =
    first_of_of_input (site_refusals_as (edition_due site) site) (
      unless_of_input _ 1 (omega arith),
      (block_of_input site (site_form (edition_due site)), (unless_of_input _ 7 (omega arith), (unless_of_input _ 13 (omega arith), tt))),
    )
