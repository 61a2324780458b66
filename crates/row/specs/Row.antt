-- A month row of the rate book: its 23 fields and their limits (document 01, "Rate book").
-- Assumes nothing.
use Rattle.std.specs.Prelude.{ℕ, zero, suc, ◌+◌, ◌*◌, ◌/◌, Bool, ◌&&◌, List, [], ◌∷◌, get_or, leb, ltb}
use Rattle.numbers.specs.Choice.{every, tab}
use Rattle.numbers.specs.Sums.{sum_to}
use Rattle.row.specs.declared.Rates.{Rates}
use Rattle.row.specs.declared.Row.{Row}

-- numbers of a row, rows of a block, and the month of the last row
abbrev pub numbers_a_row : ℕ
numbers_a_row = 23

abbrev pub rows_a_block : ℕ
rows_a_block = 5

abbrev pub last_month : ℕ
last_month = 84

-- D, the unit of the rates
abbrev pub unit : ℕ
unit = 100_000_000

-- the rates of compartment i, i from 0: red cells, liver, kidney, other, trabecular, cortical. From plasma a, back to plasma b, out of the body c
abbrev pub out : Rates → ℕ → ℕ
out r i = get_or r.out i 0

abbrev pub back : Rates → ℕ → ℕ
back r i = get_or r.back i 0

abbrev pub exit : Rates → ℕ → ℕ
exit r zero = 0
exit r (suc zero) = r.faeces
exit r (suc (suc zero)) = 0
exit r (suc (suc (suc zero))) = r.skin
exit r (suc (suc (suc (suc i)))) = 0

-- the 23 numbers of row m in a table of rows
unfoldable pub row_numbers : List ℕ → ℕ → List ℕ
row_numbers table m = tab numbers_a_row (λ (k : ℕ). get_or table (numbers_a_row * m + k) 0)

-- the row of 23 numbers, in the order of document 01
abbrev pub row_from : List ℕ → Row
row_from numbers =
    record {
      blood_volume = get_or numbers 0 0;
      plasma_volume = get_or numbers 1 0;
      body_weight = get_or numbers 2 0;
      kidney = get_or numbers 3 0;
      liver = get_or numbers 4 0;
      other = get_or numbers 5 0;
      trabecular = get_or numbers 6 0;
      cortical = get_or numbers 7 0;
      rates = record {
        out =
            get_or numbers 8 0 ∷ get_or numbers 9 0 ∷ get_or numbers 10 0 ∷ get_or numbers 11 0 ∷ get_or numbers 12 0 ∷ get_or numbers 13 0 ∷ [];
        urine = get_or numbers 14 0;
        back =
            get_or numbers 15 0 ∷ get_or numbers 16 0 ∷ get_or numbers 17 0 ∷ get_or numbers 18 0 ∷ get_or numbers 19 0 ∷ get_or numbers 20 0 ∷ [];
        faeces = get_or numbers 21 0;
        skin = get_or numbers 22 0;
      };
    }

-- row m of a table
unfoldable pub row_of : List ℕ → ℕ → Row
row_of table m = row_from (row_numbers table m)

-- the row limits: VB, VP and the weights; a1 at least 1 and the sum of the a; each b + c; each c
unfoldable pub volumes_fit : Row → Bool
volumes_fit w =
    leb 1_000 w.blood_volume && (leb w.blood_volume 60_000 && (leb 1 w.plasma_volume && ltb w.plasma_volume w.blood_volume))

unfoldable pub weights_fit : Row → Bool
weights_fit w =
    leb 2_000 w.body_weight
    && (leb w.body_weight 50_000
    && (leb w.kidney 50_000
    && (leb w.liver 50_000 && (leb w.other 50_000 && (leb w.trabecular 50_000 && leb w.cortical 50_000)))))

unfoldable pub returns_fit : Rates → Bool
returns_fit r = every (λ (i : ℕ). leb (back r i + exit r i) unit) 0 6

unfoldable pub rates_fit : Rates → Bool
rates_fit r =
    leb 1 (out r 0)
    && (leb (sum_to 6 (out r) + r.urine) (64 * unit) && (returns_fit r && (leb r.faeces (unit / 2) && leb r.skin (unit / 2))))

-- a row is within its limits, else 8
unfoldable pub row_fits : Row → Bool
row_fits w = volumes_fit w && (weights_fit w && rates_fit w.rates)

-- the five rows of a block are within their limits, from row m on
unfoldable pub rows_fit : List ℕ → ℕ → Bool
rows_fit table m = every (λ (row : ℕ). row_fits (row_of table row)) m rows_a_block
