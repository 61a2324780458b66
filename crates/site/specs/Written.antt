-- A site file written from its fields, in either edition.
-- Assumes nothing.
use Rattle.std.specs.Prelude.{ℕ, List, ◌++◌}
use Rattle.block.specs.Writer.{body_of}
use Rattle.site.specs.declared.edition.Edition.{Edition}
use Rattle.site.specs.declared.edition.Edition.TheVariants.{First, Second}
use Rattle.site.specs.declared.dust_places.DustPlace.{DustPlace}
use Rattle.site.specs.DustPlaces.{fields_of}
use Rattle.site.specs.Site.{site_form}

-- all fields of a file: edition 1 has none for the places
abbrev pub file_fields : Edition → List ℕ → List DustPlace → List ℕ
file_fields First fields places = fields
file_fields Second fields places = fields ++ fields_of places

-- its body, from its fields and places
unfoldable pub site_body : Edition → List ℕ → List DustPlace → List ℕ
site_body edition fields places = body_of (site_form edition) (file_fields edition fields places)
