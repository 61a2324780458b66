-- The column of a figure's least.
-- Assumes nothing.
use Rattle.std.proofs.Common.{◌≡◌, ℕ, ◌+◌, ◌-◌, ◌≤◌, Bool, true, false, cond, List, ◌++◌, length, length-append, append_assoc, replicate, arith}
use Rattle.std.proofs.lemmas.List.{length-replicate}
use lib.Dec.{eqb}
use Rattle.text.specs.Characters.{space}
use Rattle.text.specs.Decimal.{digits_within}
use Rattle.site.specs.Fields.{singles_at, saturation_at}
use Rattle.leaflet.specs.Figures.{place_of, least_of}
use Rattle.leaflet.specs.Grouped.{grouped_within, grouped}
use Rattle.leaflet.specs.Leaflet.{least_bytes, least_column}

-- either least fits its column
either_short : (b : Bool) → length (grouped (cond b 1_000_000 0)) ≤ least_bytes
unfolding grouped_within digits_within
either_short true = omega arith
either_short false = omega arith

pub least_short : (figure : ℕ) → length (grouped (least_of figure)) ≤ least_bytes
least_short figure = either_short (eqb (place_of figure) (singles_at + saturation_at))

-- the least of a figure put behind a text, and blanks up to the end of its column
module _ (figure : ℕ) (text : List ℕ) {after : List ℕ} {least : ℕ} (is : least ≡ least_of figure) (put : after ≡ text ++ grouped least) where
  long : length after ≡ length text + length (grouped (least_of figure))
  long = rw (put, is) (length-append text (grouped (least_of figure)))

  pub least_within : length after ≤ length text + least_bytes
  least_within = omega (arith, long, least_short figure)

  pub column_put : after ++ replicate (length text + least_bytes - length after) space ≡ text ++ least_column figure
  column_put =
      let left : length text + least_bytes - length after ≡ least_bytes - length (grouped (least_of figure)) = omega (arith, long) in
      rw (left, put, is) (append_assoc text (grouped (least_of figure)) (replicate (least_bytes - length (grouped (least_of figure))) space))

  pub column_long : length (after ++ replicate (length text + least_bytes - length after) space) ≤ length text + least_bytes
  column_long = rw (length-append, length-replicate) (omega (arith, least_within))
