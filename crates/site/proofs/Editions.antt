-- A file is accepted as one of its own edition, and in edition 1 it has zero shares and figures.
-- Assumes nothing.
use mathlib.Core.Path.{◌≡◌, refl, sym, ap, ap₂, ◌∙◌}
use mathlib.Core.Bool.{Bool, true, false, cond}
use mathlib.Core.List.{List, [], ◌∷◌}
use Prim.Native.Nat.{ℕ, ◌+◌, ◌-◌, ◌*◌, ◌≤◌, ◌<◌}
use native.Mathlib.Omega.{arith}
use borrow.Author.Tests.{eqb-true, eq-eqb, ne_eqb}
use lib.Dec.{eqb}
use lib.ListN.{length, get_or}
use Rattle.numbers.proofs.Every.{every-at, get_or-tab}
use Rattle.block.specs.Block.{byte_at, word_at, field_at, edition_at, check_at, zeros_from, used_by, fields_from, numbers_from}
use Rattle.block.proofs.BlockRefusals.{field_from, is_zero}
use Rattle.block.proofs.Whole.{accepted_edition, accepted_reserved}
use Rattle.site.specs.declared.edition.Edition.{Edition}
use Rattle.site.specs.declared.edition.Edition.TheVariants.{First, Second}
use Rattle.site.specs.declared.dust_places.DustPlace.{DustPlace}
use Rattle.site.specs.Fields.{field_count, at}
use Rattle.site.specs.DustPlaces.{place_field_count, place_in, no_place, no_places}
use Rattle.site.specs.Site.{edition_number, site_form, site_places, edition_due}
use Rattle.site.specs.Laws.{OfEdition, FirstWithoutPlaces}
use Rattle.site.proofs.FieldsWithin.{block_passed}

-- by the edition's word
pub due_is : (edition : Edition) (site : List ℕ) → word_at site edition_at ≡ edition_number edition → edition_due site ≡ edition
due_is First site e = rw (ne_eqb (word_at site edition_at) 2 (λ t. omega (arith, e, t)))
due_is Second site e = rw (eq-eqb (word_at site edition_at) 2 e)

pub of_edition : OfEdition
of_edition edition site passed = due_is edition site (accepted_edition site (site_form edition) (block_passed edition site passed))

-- reserved bytes from the places on
module _ (s : List ℕ) (reserved : zeros_from s (used_by field_count) check_at ≡ true) where
  byte_zero : (i : ℕ) → used_by field_count ≤ i → i < check_at → byte_at s i ≡ 0
  unfolding zeros_from
  byte_zero i a b =
      eqb-true (byte_at s i) 0 (every-at (is_zero s) (used_by field_count) (check_at - used_by field_count) reserved i a (omega arith))

  field_zero : (k : ℕ) → k < place_field_count → at (fields_from (used_by field_count) place_field_count s) k ≡ 0
  unfolding numbers_from field_at
  field_zero k h =
      get_or-tab place_field_count (field_from (used_by field_count) s) k h
      ∙ omega (
        arith,
        byte_zero (used_by field_count + 4 * k) (omega arith) (omega arith),
        byte_zero (used_by field_count + 4 * k + 1) (omega arith) (omega arith),
        byte_zero (used_by field_count + 4 * k + 2) (omega arith) (omega arith),
        byte_zero (used_by field_count + 4 * k + 3) (omega arith) (omega arith),
      )

  place_none : (k : ℕ) → k < 5 → place_in (fields_from (used_by field_count) place_field_count s) k ≡ no_place
  place_none k h =
      ap₂ (λ (share dust : ℕ). the_place share dust) (field_zero (2 * k) (omega arith)) (field_zero (2 * k + 1) (omega arith))
    where
      the_place : ℕ → ℕ → DustPlace
      the_place share dust = record { share = share; dust = dust }

  pub reserved_places : site_places s ≡ no_places
  reserved_places =
      rw (place_none 0 (omega arith), place_none 1 (omega arith), place_none 2 (omega arith), place_none 3 (omega arith), place_none 4 (omega arith)) refl

pub first_without_places : FirstWithoutPlaces
first_without_places site passed = reserved_places site (accepted_reserved site (site_form First) (block_passed First site passed))
