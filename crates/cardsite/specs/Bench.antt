-- Worked rows: what becomes of each, of the definitions themselves.
-- Assumes nothing.
use Rattle.std.specs.Prelude.{ℕ, ◌≡◌, Bool, true, false, List, [], ◌∷◌, None, Some}
use Prim.Native.Char.{code}
use Prim.Native.String.{String, [] as empty, ◌∷◌ as ◌then◌}
use Rattle.numbers.specs.Lists.{Each}
use Rattle.card.specs.RowRead as read
use Rattle.card.specs.Row.{read_row}
use Rattle.cardsite.specs.Start.{Start, Runs, Skipped, Refused, start_of}

-- the bytes of a text
unfoldable pub bytes_of : String → List ℕ
bytes_of empty = []
bytes_of (c then text) = code c ∷ bytes_of text

-- what becomes of a row that is written so
unfoldable pub start_written : String → Start
start_written row = start_of (read_row (bytes_of row))

abbrev pub is_run : Start → Bool
is_run (Runs c) = true
is_run Skipped = false
is_run (Refused n) = false

pub record Bench : Type 0 where
  pub run :
      Each (λ (row : String). is_run (start_written row) ≡ true)
      (
      "A1 1 1 30 50000 200 4 0.1 0 5.5 30 30"  -- soil at its limit
      ∷ "A1 1 1 30 200 50000 4 0.1 0 5.5 30 30"  -- dust
      ∷ "A1 1 1 30 200 200 10000 0.1 0 5.5 30 30"  -- water
      ∷ "A1 1 1 30 200 200 4 100 0 5.5 30 30"  -- air
      ∷ "A1 1 1 30 200 200 4 0.1 1000 5.5 30 30"  -- other
      ∷ "A1 1 1 30 200 200 4 0.1 0 5.5 100 100"  -- absorbed soil and dust
      ∷ "A1 1 1 00000001 200 200 4 0.1 0 5.5 30 30"  -- AGE 1
      ∷ "A1 1 1 84 200 200 4 0.1 0 5.5 30 30"  -- AGE 84
      ∷ "* 1 1 30 200 200 4 0.1 0 5.5 30 30"  -- ID is any text
      ∷ "A1 1.5 * 30 200 200 4 0.1 0 99999999 30 30"  -- FAM, BLOCK and PBB change nothing
      ∷ "A1 1 1 30 * 200 * * * * * *"  -- gaps
      ∷ "  A1 1 1  30 200 * 4 0.1 0 5.5 30 30 "  -- spaces before, between and after
      ∷ [])
  pub skipped :
      Each (λ (row : String). start_written row ≡ Skipped)
      (
      "A1 1 1 0 200 200 4 0.1 0 5.5 30 30"  -- AGE 0
      ∷ "A1 1 1 85 200 200 4 0.1 0 5.5 30 30"  -- AGE 85
      ∷ "A1 1 1 * 200 200 4 0.1 0 5.5 30 30"  -- no AGE
      ∷ "A1 1 1 * 50001 200 4 0.1 0 5.5 30 30"  -- no AGE and soil over its limit: the skip comes first
      ∷ "A1 1 1 30 * * 4 0.1 0 5.5 30 30"  -- neither soil nor dust
      ∷ [])
  pub over :
      Each (λ (row : String). start_written row ≡ Refused 7)
      (
      "A1 1 1 30 50000.1 200 4 0.1 0 5.5 30 30"  -- soil
      ∷ "A1 1 1 30 200 50000.1 4 0.1 0 5.5 30 30"  -- dust
      ∷ "A1 1 1 30 200 200 10000.1 0.1 0 5.5 30 30"  -- water
      ∷ "A1 1 1 30 200 200 4 100.001 0 5.5 30 30"  -- air
      ∷ "A1 1 1 30 200 200 4 0.1 1000.001 5.5 30 30"  -- other
      ∷ "A1 1 1 30 200 200 4 0.1 0 5.5 101 30"  -- absorbed soil
      ∷ "A1 1 1 30 200 200 4 0.1 0 5.5 30 101"  -- absorbed dust
      ∷ [])
  pub no_row :
      Each (λ (row : String). start_written row ≡ Refused 12)
      (
      ""  -- no field
      ∷ "A1 1 1 30 200 200 4 0.1 0 5.5 30"  -- eleven fields
      ∷ "A1 1 1 30 200 200 4 0.1 0 5.5 30 30 30"  -- thirteen
      ∷ "A1 1 1 30 200 200 4 0.1 0 5.5 30 30\r"  -- a carriage return belongs to its field
      ∷ "A1 1 1\t30 200 200 4 0.1 0 5.5 30 30"  -- and so does a tab
      ∷ "123456789 1 1 30 200 200 4 0.1 0 5.5 30 30"  -- nine bytes, in ID
      ∷ "A1 1 1 000000001 200 200 4 0.1 0 5.5 30 30"  -- in AGE
      ∷ "A1 1 1 30 50000.001 200 4 0.1 0 5.5 30 30"  -- and in SOIL
      ∷ "A1 1 1 30 0.1234 200 4 0.1 0 5.5 30 30"  -- four decimals
      ∷ "A1 1 1 30 .5 200 4 0.1 0 5.5 30 30"  -- no digit before the point
      ∷ "A1 1 1 30 5. 200 4 0.1 0 5.5 30 30"  -- none after it
      ∷ "A1 1 1 1.0 200 200 4 0.1 0 5.5 30 30"  -- a point in AGE
      ∷ "A1 1 1 30 200 200 4 0.1 0 5.5 30.0 30"  -- and in an absorption
      ∷ "A1 1 1 30 200 200 4 0.1 0 -1 30 30"  -- a sign
      ∷ "A1 1 1 30 ** 200 4 0.1 0 5.5 30 30"  -- two asterisks
      ∷ "A1 1 1 * x 200 4 0.1 0 5.5 30 30"  -- no AGE and soil no figure: 12 comes first
      ∷ [])
  -- a row's figures, in the site file's units
  pub values :
      read_row (bytes_of "A1 * 7 30 123.4 * 4 0.1 2.5 * 30 25")
      ≡ read.Accepted
      (record {
        age = Some 30;
        soil = Some 123_400;
        dust = None;
        water = Some 4_000;
        air = Some 100_000;
        other = Some 2_500_000;
        abssoil = Some 30;
        absdust = Some 25;
      })
