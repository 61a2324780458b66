-- A blood figure, thousandths of ug/dL, as it is printed: in ug/dL, to one decimal.
-- Assumes nothing.
use Rattle.std.specs.Prelude.{ℕ, ◌+◌, ◌/◌, ◌%◌, List, [], ◌∷◌, ◌++◌}
use Rattle.text.specs.Characters.{point}
use Rattle.text.specs.Decimal.{digit, decimal}

-- a blood figure in tenths of ug/dL, rounded half up
abbrev pub tenths : ℕ → ℕ
tenths blood = (blood + 50) / 100

-- a blood figure in ug/dL, to one decimal
unfoldable pub figure : ℕ → List ℕ
figure blood = decimal (tenths blood / 10) ++ (point ∷ digit (tenths blood % 10) ∷ [])
