-- Places that 7 and 13 let pass are within their limits, and the five shares together are small.
-- Assumes nothing.
use mathlib.Core.Path.{◌≡◌, refl}
use mathlib.Core.Bool.{true, ◌&&◌}
use mathlib.Core.List.{List, [], ◌∷◌}
use Prim.Native.Nat.{ℕ, zero, suc, ◌+◌, ◌*◌, ◌≤◌, ◌<◌}
use native.Mathlib.Omega.{arith}
use lib.Dec.{eqb, leb}
use lib.ListN.{get_or}
use borrow.Author.Tests.{eqb-true, leb-true}
use Rattle.std.specs.List.{list_all}
use Rattle.numbers.proofs.Every.{and_left, and_right}
use Rattle.numbers.proofs.Sums.{sum_le, sum_same}
use Rattle.site.specs.declared.dust_places.DustPlace.{DustPlace}
use Rattle.site.specs.DustPlaces.{place_count, no_place, share_of, figure_of, at_home, place_fits, places_fit, shares_away}
use Rattle.site.specs.Limits.{AtHome, SharesWithin, PlacesWithin}
use Rattle.site.specs.Laws.{Within}

-- the test at each place, past the end too
place_fit : (places : List DustPlace) → list_all place_fits places ≡ true → (k : ℕ) → place_fits (get_or places k no_place) ≡ true
place_fit [] fit k = refl
place_fit (p ∷ places) fit zero = and_left (place_fits p) (list_all place_fits places) fit
place_fit (p ∷ places) fit (suc k) = place_fit places (and_right (place_fits p) (list_all place_fits places) fit) k

pub shares_within : (places : List DustPlace) → places_fit places ≡ true → SharesWithin places
shares_within places fit k h =
    leb-true (share_of places k) 100 (and_left (leb (share_of places k) 100) (leb (figure_of places k) 50_000_000) (place_fit places fit k))

pub places_within : {fields : List ℕ} {places : List DustPlace} → Within fields places → PlacesWithin places
places_within {places = places} w =
    record {
      shares = shares_within places w.places_fit;
      figure =
          λ k h. leb-true (figure_of places k) 50_000_000
          (and_right (leb (share_of places k) 100) (leb (figure_of places k) 50_000_000) (place_fit places w.places_fit k));
      away = leb-true (shares_away places) 100 w.away_fits;
    }

-- a test that no share is above 0, and one that holds by each
home_at : (places : List DustPlace) → at_home places ≡ true → (k : ℕ) → share_of places k ≡ 0
home_at [] home k = refl
home_at (p ∷ places) home zero = eqb-true p.share 0 (and_left (eqb p.share 0) (at_home places) home)
home_at (p ∷ places) home (suc k) = home_at places (and_right (eqb p.share 0) (at_home places) home) k

pub is_at_home : (places : List DustPlace) → at_home places ≡ true → AtHome places
is_at_home places home k h = home_at places home k

pub shares_small : (places : List DustPlace) → SharesWithin places → shares_away places ≤ 500
unfolding shares_away
shares_small places within = omega (arith, sum_le place_count (share_of places) (λ k. 100) within, sum_same place_count 100)
