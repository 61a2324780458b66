-- The walk through a piece: a loop over its bytes, and what it passes.
-- Assumes nothing.
use Prim.Native.Nat.{ℕ, suc, ◌+◌, ◌≤◌, ◌<◌}
use mathlib.Core.Path.{◌≡◌, refl, ap}
use mathlib.Core.Bool.{Bool, true, false, cond, true≢false}
use mathlib.Core.List.{List, [], ◌∷◌}
use native.Mathlib.Omega.{arith}
use native.Mathlib.Numerals.{add-one}
use lib.ListN.{length, drop_of_length-le, get_or, drop}
use lib.Seq.{drop-cons}
use Rattle.lines.specs.declared.Reader.{Reader}
use Rattle.lines.specs.Walk.{Walk}
use Rattle.lines.specs.Stream.{ends, next_of, ended}
use Rattle.lines.specs.Walk.{past_row_end, byte_then, walk_of}
use Rattle.lines.specs.Laws.{Walked}

-- a walk with n bytes before it
abbrev pub bytes_then : ℕ → Walk → Walk
bytes_then n w = record { used = w.used + n; ended = w.ended; row = w.row; reader = w.reader }

-- a loop over the bytes of a piece: what is left from place i is walked as the whole was
module _ (r : Reader) (piece : List ℕ) (i : ℕ) (inside : i < length piece) where
  pub walk_ends :
      (s : Reader) → s ≡ next_of r (get_or piece i 0) → ends r (get_or piece i 0) ≡ true
      → bytes_then i (walk_of r (drop i piece)) ≡ record { used = i + 1; ended = true; row = r.row; reader = s }
  unfolding walk_of
  walk_ends s next e = let one : 1 + i ≡ i + 1 = omega arith in rw (drop-cons piece i 0 inside, e, next, one)

  pub walk-goes-on :
      (s : Reader) → s ≡ next_of r (get_or piece i 0) → ends r (get_or piece i 0) ≡ false
      → bytes_then (i + 1) (walk_of s (drop (i + 1) piece)) ≡ bytes_then i (walk_of r (drop i piece))
  unfolding walk_of
  walk-goes-on s next e =
      let one : (u : ℕ) → suc u + i ≡ u + suc i = λ (u : ℕ). omega arith in rw (drop-cons piece i 0 inside, e, next, add-one, one)

pub walk-stops :
    (r : Reader) (piece : List ℕ) (i : ℕ) → i ≤ length piece → length piece ≤ i
    → bytes_then i (walk_of r (drop i piece)) ≡ record { used = length piece; ended = false; row = r.row; reader = r }
unfolding walk_of
walk-stops r piece i within all =
    let end : 0 + i ≡ length piece = omega arith in rw (drop_of_length-le piece all, end)

-- LAW: a walk passes the rows of its piece one by one
module _ (b : ℕ) (bs : List ℕ) (r : Reader) (rest : Walked (next_of r b) bs (walk_of (next_of r b) bs)) where
  row_passed : ends r b ≡ true → Walked r (b ∷ bs) (past_row_end r b)
  unfolding ended
  row_passed e =
      record {
        leads = refl;
        passes = rw e;
        within = omega arith;
        onward = λ some. omega arith;
        whole = λ on. absurd (true≢false on);
      }

  byte_passed : ends r b ≡ false → Walked r (b ∷ bs) (byte_then (walk_of (next_of r b) bs))
  unfolding ended
  byte_passed e =
      record {
        leads = rest.leads;
        passes = rw e rest.passes;
        within = let w : (walk_of (next_of r b) bs).used ≤ length bs = rest.within in omega arith;
        onward = λ some. omega arith;
        whole = λ on. ap suc (rest.whole on);
      }

  walked_byte : (t : Bool) → ends r b ≡ t → Walked r (b ∷ bs) (cond t (past_row_end r b) (byte_then (walk_of (next_of r b) bs)))
  walked_byte true e = row_passed e
  walked_byte false e = byte_passed e

pub walked : (r : Reader) (piece : List ℕ) → Walked r piece (walk_of r piece)
unfolding walk_of ended
walked r [] = record { leads = refl; passes = refl; within = omega arith; onward = λ some. some; whole = λ on. refl }
walked r (b ∷ bs) = walked_byte b bs r (walked (next_of r b) bs) (ends r b) refl
