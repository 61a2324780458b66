-- The sum that code makes over a range, `(0..n).map(h).sum()`, is the sum of the definitions.
-- Assumes nothing.
use mathlib.Core.Path.{◌≡◌, refl, ap, ◌∙◌}
use mathlib.Core.List.{List, map}
use Prim.Native.Nat.{ℕ, zero, suc, ◌+◌, ◌<◌}
use native.Mathlib.Numerals.{add-one}
use native.Mathlib.Omega.{arith}
use Rattle.std.specs.Fn.{Mut, Called}
use Rattle.std.specs.declared.iter.Map.{Map}
use Rattle.std.specs.declared.ops.Range.{Range}
use Rattle.std.proofs.iter.Yields.{nat_range_steps}
use Rattle.std.proofs.lemmas.Iterator.{YieldsList, YieldsList-from_range, YieldsList-from_map, maps}
use Rattle.std.proofs.lemmas.Iterator.Consumers.{YieldsList-at, sum_from_yields_List, fits_from_yields_list}
use Rattle.std.proofs.lemmas.List.FromFn.{sum_by-map-range_with_len_more}
use Rattle.std.specs.Bool.{⊤}
use Rattle.std.specs.Iterator.{Drains}
use Rattle.std.specs.Iterator.Adapters.{map_source, map_callee}
use Rattle.std.specs.Iterator.Runs.{EachRunFrom}
use Rattle.std.specs.List.{range_with_len, fold, sum}
use Rattle.numbers.specs.Sums.{sum_to}

sum_terms : (h : ℕ → ℕ) (n : ℕ) → sum (map h (range_with_len 0 n)) ≡ sum_to n h
unfolding sum_to
sum_terms h zero = refl
sum_terms h (suc n) =
    rw (add-one n) at (sum_by-map-range_with_len_more (λ x. x) h 0 n n (omega arith) ∙ ap (λ (s : ℕ). s + h n) (sum_terms h n))

-- the closure answers h of each number, and stays as it is
module _ {F : Type 0} (g : Mut F (ℕ × Unit {0}) ℕ) (h : ℕ → ℕ) (n : ℕ) {f : F} {s : Map (Range ℕ) F}
    (source : map_source s ≡ record { start = 0; end = n }) (closure : map_callee s ≡ f)
    (answers : (x r : ℕ) (q : F) → Called g f (x, tt) r q → (q ≡ f) × (r ≡ h x))
  where
    terms : YieldsList (maps nat_range_steps g) (λ r. r) s (map h (range_with_len 0 n))
    terms = YieldsList-from_map g h (YieldsList-at source (YieldsList-from_range 0 n n refl (omega arith))) closure answers

    pub range_sum : (r : ℕ) → ((xs : List ℕ) × (⊤ → Drains (maps nat_range_steps g) s xs) × (r ≡ fold (λ a x. a + x) 0 xs)) → r ≡ sum_to n h
    range_sum r ran = sum_from_yields_List s r ran terms ∙ sum_terms h n

    pub range_fits : (top : ℕ) → sum_to n h < top → EachRunFrom (maps nat_range_steps g) s (λ p. fold (λ a x. a + x) 0 p.items < top)
    range_fits top small = fits_from_yields_list s top terms (rw (sum_terms h n) small)
