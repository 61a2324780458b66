-- Small texts and rows worked out, of the definitions themselves.
-- Assumes nothing.
use Rattle.std.specs.Prelude.{◌≡◌, [], ◌∷◌}
use Rattle.lines.specs.Text.{rows_of, fields_of}

pub record WorkedTexts : Type 0 where
  -- no rows: nothing, `a`, `b`, `c` without a last line feed, and with it
  pub no_text : rows_of [] ≡ []
  pub headings_alone : rows_of (97 ∷ 10 ∷ 98 ∷ 10 ∷ 99 ∷ []) ≡ []
  pub headings-ended : rows_of (97 ∷ 10 ∷ 98 ∷ 10 ∷ 99 ∷ 10 ∷ []) ≡ []
  -- one row: an empty line after three empty headings, and `d` without a line feed
  pub empty_row : rows_of (10 ∷ 10 ∷ 10 ∷ 10 ∷ []) ≡ [] ∷ []
  pub last_row : rows_of (97 ∷ 10 ∷ 98 ∷ 10 ∷ 99 ∷ 10 ∷ 100 ∷ []) ≡ (100 ∷ []) ∷ []
  -- spaces before, between and after the fields `1` and `2`; a tab and a carriage return belong to a field
  pub two_fields : fields_of (32 ∷ 49 ∷ 32 ∷ 32 ∷ 50 ∷ 32 ∷ []) ≡ (49 ∷ []) ∷ (50 ∷ []) ∷ []
  pub one_field : fields_of (49 ∷ 9 ∷ 50 ∷ 13 ∷ []) ≡ (49 ∷ 9 ∷ 50 ∷ 13 ∷ []) ∷ []
