-- The fields of a figure: its first is one of the 94, and its most is the limit of each.
-- Assumes nothing.
use mathlib.Core.Path.{◌≡◌, sym, ap, ◌∙◌}
use Prim.Native.Nat.{ℕ, suc, ◌+◌, ◌-◌, ◌*◌, ◌≤◌, ◌<◌}
use native.Mathlib.Decide.{dec_lt}
use native.Mathlib.Omega.{arith}
use borrow.Author.Tests.{lt-ltb, le-ltb}
use Rattle.site.specs.Fields.{ages, groups, singles_at, at, limits}
use Rattle.site.proofs.PutFits.{group_limit}
use Rattle.leaflet.specs.Figures.{figures, place_of, most_of}
use Rattle.leaflet.specs.Internal.{MostOf}

module _ (figure : ℕ) where
  pub by_age_lem : figure < groups → ages * figure ≡ place_of figure
  by_age_lem h = rw (lt-ltb figure groups h)

  pub singly : groups ≤ figure → singles_at + (figure - groups) ≡ place_of figure
  singly h = rw (le-ltb figure groups h)

-- behind the ages of a figure stands the next one's first field
next_place : (figure : ℕ) → figure < groups → place_of (suc figure) ≡ ages * suc figure
next_place figure h =
    elim (dec_lt (suc figure) groups) [
      | yes l ↦ sym (by_age_lem (suc figure) l)
      | no l ↦ sym (singly (suc figure) (omega arith)) ∙ omega arith
    ]

module _ (figure : ℕ) (one : figure < figures) where
  each_limit : (place : ℕ) → place_of figure ≤ place → place < place_of (suc figure) → at limits place ≡ most_of figure
  each_limit place a b =
      elim (dec_lt figure groups) [
        | yes h ↦
            let k : place ≡ ages * figure + (place - ages * figure) = omega (arith, by_age_lem figure h) in
            ap (at limits) k
            ∙ group_limit figure h (place - ages * figure) (omega (arith, by_age_lem figure h, next_place figure h))
            ∙ ap (at limits) (omega (arith, by_age_lem figure h))
        | no h ↦ ap (at limits) (omega (arith, singly figure (omega arith), singly (suc figure) (omega arith)))
      ]

  -- the entry of the list
  pub most_of_lem : {place : ℕ} → place ≡ place_of figure → MostOf figure (at limits place)
  most_of_lem e =
      record {
        is = ap (at limits) e;
        each = λ place a b. each_limit place a b ∙ ap (at limits) (sym e);
      }
