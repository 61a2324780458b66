-- The converter of site files (document 02, [7]): why it refuses, in its order, and what its target holds afterwards.
-- Assumes nothing.
use Rattle.std.specs.Prelude.{ℕ, List, [], ◌∷◌, length, eqb}
use Rattle.numbers.specs.Choice.{unless, first_of, answer_by}
use Rattle.block.specs.Block.{block_bytes}
use Rattle.block.specs.Writer.{sealed}
use Rattle.site.specs.declared.edition.Edition.{Edition}
use Rattle.site.specs.declared.edition.Edition.TheVariants.{First, Second}
use Rattle.site.specs.DustPlaces.{no_places, at_home}
use Rattle.site.specs.Site.{site_fields, site_places, site_refusal_as}
use Rattle.site.specs.Written.{site_body}

-- 1 of the target, another length than 512
abbrev pub target_refusal : List ℕ → ℕ
target_refusal target = unless (eqb (length target) block_bytes) 1

-- from 1 to 2: the site file's own as one of edition 1, so that another edition is 4
abbrev pub to_second_refusals : List ℕ → List ℕ → List ℕ
to_second_refusals site target = target_refusal target ∷ site_refusal_as First site ∷ []

unfoldable pub to_second_refusal : List ℕ → List ℕ → ℕ
to_second_refusal site target = first_of (to_second_refusals site target)

-- from 2 to 1: its own as one of edition 2, and last 14 if a share is above 0
abbrev pub to_first_refusals : List ℕ → List ℕ → List ℕ
to_first_refusals site target = target_refusal target ∷ site_refusal_as Second site ∷ unless (at_home (site_places site)) 14 ∷ []

unfoldable pub to_first_refusal : List ℕ → List ℕ → ℕ
to_first_refusal site target = first_of (to_first_refusals site target)

-- a site file in an edition: its 94 fields, zero shares and figures, and the check of these
unfoldable pub in_edition : Edition → List ℕ → List ℕ
in_edition edition site = sealed (site_body edition (site_fields site) no_places)

-- what the target holds afterwards: it is filled only on success
abbrev pub filled : ℕ → List ℕ → List ℕ → List ℕ
filled refusal file target = answer_by refusal file (λ r. target)

unfoldable pub to_second : List ℕ → List ℕ → List ℕ
to_second site target = filled (to_second_refusal site target) (in_edition Second site) target

unfoldable pub to_first : List ℕ → List ℕ → List ℕ
to_first site target = filled (to_first_refusal site target) (in_edition First site) target
