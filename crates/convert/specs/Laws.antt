-- What a conversion keeps, for every site file that the converter accepts; and that the ways undo each other.
-- Assumes nothing.
use Rattle.std.specs.Prelude.{ℕ, ◌≡◌, List, length}
use Rattle.block.specs.Block.{Bytes, block_bytes}
use Rattle.site.specs.declared.edition.Edition.{Edition}
use Rattle.site.specs.declared.edition.Edition.TheVariants.{First, Second}
use Rattle.site.specs.DustPlaces.{no_places}
use Rattle.site.specs.Limits.{AtHome}
use Rattle.site.specs.Site.{site_fields, site_places, site_refusal_as}
use Rattle.convert.specs.Convert.{to_second_refusal, to_second, to_first_refusal, to_first, in_edition}

-- a file of one edition before, and of the other after: both are accepted, the other fields stay, no share is above 0 before, and after there are zero
-- shares and figures
pub record Converted (from to : Edition) (before after : List ℕ) : Type 0 where
  pub accepted_before : site_refusal_as from before ≡ 0
  pub accepted : site_refusal_as to after ≡ 0
  pub fields : site_fields after ≡ site_fields before
  pub home : AtHome (site_places before)
  pub places : site_places after ≡ no_places

abbrev pub UpLaw : Type 0
UpLaw = (site target : List ℕ) → to_second_refusal site target ≡ 0 → Converted First Second site (to_second site target)

abbrev pub DownLaw : Type 0
DownLaw = (site target : List ℕ) → to_first_refusal site target ≡ 0 → Converted Second First site (to_first site target)

-- up and down again is the file itself, byte for byte
pub record DownAgain (site there back : List ℕ) : Type 0 where
  pub refusal : to_first_refusal there back ≡ 0
  pub file : to_first there back ≡ site

abbrev pub DownAfterUp : Type 0
DownAfterUp =
    (site target back : List ℕ) → Bytes site → to_second_refusal site target ≡ 0 → length back ≡ block_bytes
    → DownAgain site (to_second site target) back

-- down and up again is the file with its figures 0
pub record UpAgain (site there back : List ℕ) : Type 0 where
  pub refusal : to_second_refusal there back ≡ 0
  pub file : to_second there back ≡ in_edition Second site

abbrev pub UpAfterDown : Type 0
UpAfterDown =
    (site target back : List ℕ) → to_first_refusal site target ≡ 0 → length back ≡ block_bytes → UpAgain site (to_first site target) back
