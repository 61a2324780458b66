-- The last month that the rows of a roll are run is within the book's.
-- Assumes nothing.
use mathlib.Core.Path.{◌≡◌, refl}
use mathlib.Core.Bool.{Bool, true, false, cond}
use mathlib.Core.List.{List}
use Prim.Native.Nat.{ℕ, ◌+◌, ◌≤◌, ◌<◌, max}
use native.Mathlib.Omega.{arith}
use lib.Dec.{eqb}
use Rattle.std.specs.List.{fold, range_with_len}
use Rattle.numbers.proofs.Greatest.{greatest_reaches, greatest_within}
use Rattle.site.specs.Fields.{at}
use Rattle.row.specs.Row.{last_month}
use Rattle.card.specs.RowRead as read
use Rattle.cardsite.specs.Start.{Start, Runs, Skipped, Refused, start_of}
use Rattle.cardsite.proofs.Starts.{runs_within}
use Rattle.numbers.specs.Parts.{part_at}
use Rattle.roll.specs.Words.{words_a_row, card_in, start_in, start_at}
use Rattle.group.specs.Internal.{until_of, LastMonth}

-- a row runs up to its AGE
until_most : (x : read.RowRead) (y : Start) → start_of x ≡ y → until_of y ≤ last_month
until_most x (Runs c) e = omega (arith, (runs_within x c e).last)
until_most x Skipped e = omega arith
until_most x (Refused n) e = omega arith

-- so it does if its words are of no row
kind_most : (a b : Bool) (x : read.RowRead) (n : ℕ) → until_of (cond a (start_of x) (cond b Skipped (Refused n))) ≤ last_month
kind_most true b x n = until_most x (start_of x) refl
kind_most false true x n = omega arith
kind_most false false x n = omega arith

start_most : (roll : List ℕ) (i : ℕ) → until_of (start_at roll i) ≤ last_month
unfolding start_in
start_most roll i =
    let words = part_at words_a_row roll i in kind_most (eqb (at words 0) 0) (eqb (at words 0) 1) (read.Accepted (card_in words)) (at words 1)

pub last_of : (roll : List ℕ) (n last : ℕ) → last ≡ fold (λ a i. max a (until_of (start_at roll i))) 0 (range_with_len 0 n) → LastMonth roll n last
last_of roll n last e =
    let h = λ (i : ℕ). until_of (start_at roll i) in
    record {
      reaches = λ i l. omega (arith, e, greatest_reaches h n i l);
      within = omega (arith, e, greatest_within h n last_month (start_most roll));
    }
