-- The walk through a piece of a text, up to the end of a row.
-- Assumes nothing.
use Rattle.std.specs.Prelude.{ℕ, suc, Bool, true, false, cond, List, [], ◌∷◌}
use Rattle.lines.specs.declared.RowText.{RowText}
use Rattle.lines.specs.declared.Reader.{Reader}
use Rattle.lines.specs.Stream.{ends, next_of}

-- where a walk stopped: past the byte that ended a row, or at the end of the piece
pub record Walk : Type 0 where
  -- bytes of the piece
  pub used : ℕ
  -- a row has ended
  pub ended : Bool
  -- that row, or what there is of one that goes on
  pub row : RowText
  pub reader : Reader

-- it stops at the end of the piece, or past the byte that ends a row
abbrev pub at_piece_end : Reader → Walk
at_piece_end r = record { used = 0; ended = false; row = r.row; reader = r }

abbrev pub past_row_end : Reader → ℕ → Walk
past_row_end r b = record { used = 1; ended = true; row = r.row; reader = next_of r b }

-- a walk with a byte before it
abbrev pub byte_then : Walk → Walk
byte_then w = record { used = suc w.used; ended = w.ended; row = w.row; reader = w.reader }

unfoldable pub walk_of : Reader → List ℕ → Walk
walk_of r [] = at_piece_end r
walk_of r (b ∷ bs) = cond (ends r b) (past_row_end r b) (byte_then (walk_of (next_of r b) bs))

-- the rows that have ended: one or none
abbrev pub row_in : Walk → List RowText
row_in w = cond w.ended (w.row ∷ []) []
