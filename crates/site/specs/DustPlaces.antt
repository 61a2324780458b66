-- The five places of site edition 2 where dust is taken in away from home: work, school, daycare, second home and other (document 02, [7]).
-- Assumes nothing.
use Rattle.std.specs.Prelude.{ℕ, ◌+◌, ◌*◌, Bool, ◌&&◌, List, [], ◌∷◌, replicate, get_or, eqb, leb}
use Rattle.std.specs.List.{list_all}
use Rattle.numbers.specs.Choice.{unless}
use Rattle.numbers.specs.Sums.{sum_to}
use Rattle.site.specs.Fields.{at, fields_fit}
use Rattle.site.specs.declared.dust_places.DustPlace.{DustPlace}

-- five places, and their fields, which stand in pairs: a share in hundredths, and a dust figure
abbrev pub place_count : ℕ
place_count = 5

abbrev pub place_field_count : ℕ
place_field_count = 2 * place_count

-- the places of these fields
abbrev pub place_in : List ℕ → ℕ → DustPlace
place_in fields k = record { share = at fields (2 * k); dust = at fields (2 * k + 1) }

abbrev pub places_of : List ℕ → List DustPlace
places_of fields =
    place_in fields 0  -- work
    ∷ place_in fields 1  -- school
    ∷ place_in fields 2  -- daycare
    ∷ place_in fields 3  -- second home
    ∷ place_in fields 4  -- other
    ∷ []

-- and their fields again
abbrev pub fields_of : List DustPlace → List ℕ
fields_of [] = []
fields_of (p ∷ places) = p.share ∷ p.dust ∷ fields_of places

-- zero share and figure
abbrev pub no_place : DustPlace
no_place = record { share = 0; dust = 0 }

abbrev pub no_places : List DustPlace
no_places = replicate place_count no_place

-- the share and the figure of place k
abbrev pub share_of : List DustPlace → ℕ → ℕ
share_of places k = (get_or places k no_place).share

abbrev pub figure_of : List DustPlace → ℕ → ℕ
figure_of places k = (get_or places k no_place).dust

-- no share is above 0: all dust is the house's
abbrev pub at_home : List DustPlace → Bool
at_home places = list_all (λ (p : DustPlace). eqb p.share 0) places

-- a share is at most 100, and a figure at most 5 × 10^7
abbrev pub place_fits : DustPlace → Bool
place_fits p = leb p.share 100 && leb p.dust 50_000_000

abbrev pub places_fit : List DustPlace → Bool
places_fit places = list_all place_fits places

-- the five shares together, what of the dust is not the house's, are at most 100
unfoldable pub shares_away : List DustPlace → ℕ
shares_away places = sum_to place_count (share_of places)

abbrev pub away_fits : List DustPlace → Bool
away_fits places = leb (shares_away places) 100

-- why fields and places are refused: one outside its limits, and then the five shares together
abbrev pub limit_refusals : List ℕ → List DustPlace → List ℕ
limit_refusals fields places = unless (fields_fit fields && places_fit places) 7 ∷ unless (away_fits places) 13 ∷ []
