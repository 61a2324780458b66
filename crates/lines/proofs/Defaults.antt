-- A row and a reader by default are those of no byte.
-- Assumes nothing.
use Prim.Native.Nat.{ℕ}
use mathlib.Core.Path.{◌≡◌, refl, sym, ◌∙◌}
use mathlib.Core.Bool.{false}
use mathlib.Core.List.{List, []}
use native.Mathlib.Omega.{arith}
use lib.ListN.{replicate}
use Rattle.std.specs.Array.{AllOfLen}
use Rattle.std.proofs.lemmas.List.{ext_get_or, length-replicate, get_or-replicate}
use Rattle.lines.specs.declared.RowText.{RowText}
use Rattle.lines.specs.declared.Reader.{Reader}
use Rattle.numbers.specs.Choice.{tab}
use Rattle.lines.specs.Text.{pieces, filled, fields_of}
use Rattle.lines.specs.Summary.{any_long, in_field, kept, summary_of}
use Rattle.lines.specs.Stream.{row_start}

-- a list of defaults is one of zeros
pub zeros : (n : ℕ) (xs : List ℕ) → AllOfLen (λ x. x ≡ 0) xs n → xs ≡ replicate n 0
zeros n xs all =
    ext_get_or 0 xs (replicate n 0) (all.long ∙ sym (length-replicate n 0)) (λ i h. all.at i 0 (omega (arith, all.long)) ∙ sym (get_or-replicate n i 0 0 (omega (arith, all.long))))

pub nothing_kept :
    (row : RowText) → row.count ≡ 0 → row.inside ≡ false → row.long ≡ false
    → AllOfLen (λ x. x ≡ 0) row.lengths 12 → AllOfLen (λ x. x ≡ 0) row.fields 96 → row ≡ summary_of []
unfolding summary_of kept fields_of pieces filled in_field any_long tab
nothing_kept row count inside long lengths fields = rw (count, inside, long, zeros 12 row.lengths lengths, zeros 96 row.fields fields) refl

pub row_to_come :
    (r : Reader) → r.headings ≡ 0 → r.row.count ≡ 0 → r.row.inside ≡ false → r.row.long ≡ false
    → AllOfLen (λ x. x ≡ 0) r.row.lengths 12 → AllOfLen (λ x. x ≡ 0) r.row.fields 96 → r.begun ≡ false → r ≡ row_start
unfolding row_start
row_to_come r headings count inside long lengths fields begun =
    let row : r.row ≡ summary_of [] = nothing_kept r.row count inside long lengths fields in rw (headings, row, begun) refl
