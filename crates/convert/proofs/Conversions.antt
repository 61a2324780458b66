-- What a conversion keeps, and that the two ways undo each other.
-- Assumes nothing.
use mathlib.Core.Path.{◌≡◌, refl, sym, ap, ◌∙◌}
use mathlib.Core.Bool.{true}
use mathlib.Core.List.{List}
use Prim.Native.Nat.{ℕ}
use native.Mathlib.Omega.{arith}
use borrow.Author.Tests.{eq-eqb, eqb-true}
use lib.ListN.{length, get_or}
use Rattle.numbers.specs.Choice.{unless}
use Rattle.numbers.proofs.Refusals.{first_of_none, unless_none, or_else-last}
use Rattle.block.specs.Block.{Bytes, block_bytes}
use Rattle.block.specs.Writer.{sealed, BodyPasses}
use Rattle.block.proofs.Whole.{accepted_is}
use Rattle.site.specs.declared.edition.Edition.{Edition}
use Rattle.site.specs.declared.edition.Edition.TheVariants.{First, Second}
use Rattle.site.specs.Fields.{field_count, fields_fit}
use Rattle.site.specs.DustPlaces.{no_places, at_home}
use Rattle.site.specs.Limits.{AtHome}
use Rattle.site.specs.Site.{site_form, site_fields, site_places, site_refusal_as}
use Rattle.site.specs.Written.{site_body}
use Rattle.site.specs.Laws.{Within}
use Rattle.site.proofs.FieldsWithin.{block_passed, long_passed, within_passed}
use Rattle.site.proofs.PlaceLimits.{is_at_home}
use Rattle.site.proofs.Editions.{first_without_places}
use Rattle.site.proofs.ReadBack.{LaidOut, no_places_laid, none_within, sealed_fields, sealed_places, sealed_accepted}
use Rattle.convert.specs.Convert.{to_second_refusals, to_second_refusal, to_first_refusals, to_first_refusal, in_edition, to_second, to_first}
use Rattle.convert.specs.Laws.{Converted, UpLaw, DownLaw, DownAgain, DownAfterUp, UpAgain, UpAfterDown}
use Rattle.convert.proofs.ConvertAnswers.{fields_long}

-- a file of an edition, and its fields in an edition
module _ (from to : Edition) (site : List ℕ) (passed : site_refusal_as from site ≡ 0) where
  fit : fields_fit (site_fields site) ≡ true
  fit = (within_passed from site passed).fields_fit

  laid : LaidOut to (site_fields site) no_places (site_body to (site_fields site) no_places)
  laid = no_places_laid to (site_fields site) (fields_long site) fit

  fields_stay : site_fields (in_edition to site) ≡ site_fields site
  unfolding in_edition
  fields_stay = sealed_fields to _ laid.passes ∙ laid.fields_are

  places_none : site_places (in_edition to site) ≡ no_places
  unfolding in_edition
  places_none = sealed_places to _ laid.passes ∙ laid.places_are

  accepted_in : site_refusal_as to (in_edition to site) ≡ 0
  unfolding in_edition
  accepted_in =
      sealed_accepted to (site_body to (site_fields site) no_places) laid.passes (rw (laid.fields_are, laid.places_are) (none_within (site_fields site) fit))

  pub converted : AtHome (site_places site) → Converted from to site (in_edition to site)
  converted home = record { accepted_before = passed; accepted = accepted_in; fields = fields_stay; home = home; places = places_none }

-- what an accepted conversion says
module _ (site target : List ℕ) (accepted : to_second_refusal site target ≡ 0) where
  second_passed : (k : ℕ) → get_or (to_second_refusals site target) k 0 ≡ 0
  unfolding to_second_refusal
  second_passed = first_of_none (to_second_refusals site target) accepted

  second_is : to_second site target ≡ in_edition Second site
  unfolding to_second
  second_is = rw accepted

module _ (site target : List ℕ) (accepted : to_first_refusal site target ≡ 0) where
  first_passed : (k : ℕ) → get_or (to_first_refusals site target) k 0 ≡ 0
  unfolding to_first_refusal
  first_passed = first_of_none (to_first_refusals site target) accepted

  first_is : to_first site target ≡ in_edition First site
  unfolding to_first
  first_is = rw accepted

  first_home : AtHome (site_places site)
  first_home = is_at_home (site_places site) (unless_none _ 14 (omega arith) (first_passed 2))

none_home : (site : List ℕ) → site_places site ≡ no_places → at_home (site_places site) ≡ true
none_home site e = ap at_home e

pub up : UpLaw
up site target accepted =
    let passed : site_refusal_as First site ≡ 0 = second_passed site target accepted 1 in
    rw (second_is site target accepted)
    (converted First Second site passed (is_at_home (site_places site) (none_home site (first_without_places site passed))))

pub down : DownLaw
down site target accepted =
    rw (first_is site target accepted)
    (converted Second First site (first_passed site target accepted 1) (first_home site target accepted))

-- an accepted file is refused by no way of its edition
second_accepts : (site target : List ℕ) → site_refusal_as First site ≡ 0 → length target ≡ block_bytes → to_second_refusal site target ≡ 0
unfolding to_second_refusal unless
second_accepts site target passed room = rw (eq-eqb (length target) block_bytes room, passed)

first_accepts : (site target : List ℕ) → site_refusal_as Second site ≡ 0 → site_places site ≡ no_places → length target ≡ block_bytes
    → to_first_refusal site target ≡ 0
unfolding to_first_refusal unless
first_accepts site target passed none room = rw (eq-eqb (length target) block_bytes room, passed, none_home site none)

-- the same fields give the same file
same_in : (edition : Edition) (site there : List ℕ) → site_fields there ≡ site_fields site → in_edition edition there ≡ in_edition edition site
unfolding in_edition
same_in edition site there e = ap (λ (f : List ℕ). sealed (site_body edition f no_places)) e

-- a file of edition 1 is its fields in edition 1
first_itself : (site : List ℕ) → Bytes site → site_refusal_as First site ≡ 0 → site ≡ in_edition First site
unfolding in_edition site_body
first_itself site bytes passed =
    accepted_is site (site_form First) field_count (long_passed First site passed) bytes (omega arith) refl (block_passed First site passed)

pub down_after_up : DownAfterUp
down_after_up site target back bytes accepted room =
    let c = up site target accepted in
    let refusal = first_accepts (to_second site target) back c.accepted c.places room in
    record {
      refusal = refusal;
      file = first_is (to_second site target) back refusal ∙ same_in First site (to_second site target) c.fields ∙ sym (first_itself site bytes c.accepted_before);
    }

pub up_after_down : UpAfterDown
up_after_down site target back accepted room =
    let c = down site target accepted in
    let refusal = second_accepts (to_first site target) back c.accepted room in
    record {
      refusal = refusal;
      file = second_is (to_first site target) back refusal ∙ same_in Second site (to_first site target) c.fields;
    }
