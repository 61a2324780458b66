-- The body of a file of edition 2: the places' fields stored behind the others.
-- Assumes nothing.
use mathlib.Core.Path.{◌≡◌, sym, ap, ◌∙◌}
use mathlib.Core.List.{List, [], ◌∷◌, ◌++◌}
use Prim.Native.Nat.{ℕ, ◌+◌, ◌*◌}
use native.Mathlib.Omega.{arith}
use lib.ListN.{length}
use lib.Seq.{sets}
use Rattle.block.specs.Block.{used_by}
use Rattle.block.specs.Writer.{layout, body_of}
use Rattle.block.proofs.BodyStores.{more_stored}
use Rattle.site.specs.declared.edition.Edition.TheVariants.{Second}
use Rattle.site.specs.declared.dust_places.DustPlace.{DustPlace}
use Rattle.site.specs.Fields.{field_count}
use Rattle.site.specs.DustPlaces.{place_count, place_field_count, fields_of}
use Rattle.site.specs.Site.{site_form}
use Rattle.site.specs.Written.{site_body}

pub length-fields_of : (places : List DustPlace) → length (fields_of places) ≡ 2 * length places
length-fields_of [] = omega arith
length-fields_of (p ∷ places) = omega (arith, length-fields_of places)

pub second_body : (fields : List ℕ) (places : List DustPlace) → length fields ≡ field_count → length places ≡ place_count → {body after : List ℕ}
    → body ≡ body_of (site_form Second) fields → after ≡ sets body (used_by field_count) (layout (fields_of places)) → after ≡ site_body Second fields places
unfolding site_body
second_body fields places long five {body} hb ha =
    more_stored (site_form Second) fields (fields_of places) (omega (arith, length-fields_of places)) hb
    (ha ∙ ap (λ (n : ℕ). sets body (used_by n) (layout (fields_of places))) (sym long))
