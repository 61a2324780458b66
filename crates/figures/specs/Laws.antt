-- The laws of a card's figures: numbers as they are written are read as they are, and nothing else is read as a figure.
-- Assumes nothing.
use Rattle.std.specs.Prelude.{◌≡◌, List, [], ◌∷◌, ◌++◌, ℕ, ◌+◌, ◌-◌, ◌*◌, ◌^◌, ◌≤◌, ◌<◌, length}
use Rattle.text.specs.Characters.{star, point}
use Rattle.text.specs.Decimal.{digit, decimal}
use Rattle.text.specs.Laws.{value_from}
use Rattle.numbers.specs.Lists.{Each}
use Rattle.figures.specs.Reading.{Missing, Figure}
use Rattle.figures.specs.Figure.{decimals, plain_field, figure_field}

-- a number below 10^10, whole and with one, two and three decimals, and an asterisk
pub record WrittenIsRead (n : ℕ) : Type 0 where
  pub plain : plain_field (decimal n) ≡ Figure n
  pub whole : (unit : ℕ) → figure_field unit (decimal n) ≡ Figure (1000 * n * unit)
  pub tenths : (unit a : ℕ) → a < 10 → figure_field unit (decimal n ++ (point ∷ digit a ∷ [])) ≡ Figure ((1000 * n + 100 * a) * unit)
  pub hundredths : (unit a b : ℕ) → a < 10 → b < 10
      → figure_field unit (decimal n ++ (point ∷ digit a ∷ digit b ∷ [])) ≡ Figure ((1000 * n + 100 * a + 10 * b) * unit)
  pub thousandths : (unit a b c : ℕ) → a < 10 → b < 10 → c < 10
      → figure_field unit (decimal n ++ (point ∷ digit a ∷ digit b ∷ digit c ∷ [])) ≡ Figure ((1000 * n + 100 * a + 10 * b + c) * unit)

abbrev pub WrittenLaw : Type 0
WrittenLaw = (n : ℕ) → n < 10 ^ 10 → WrittenIsRead n

-- an asterisk is a gap
pub record StarLaw : Type 0 where
  pub plain : plain_field (star ∷ []) ≡ Missing
  pub figure : (unit : ℕ) → figure_field unit (star ∷ []) ≡ Missing

-- a field that is read as a whole number is one digit or more, and nothing else, and they give that number
pub record IsWhole (field : List ℕ) (n : ℕ) : Type 0 where
  pub some : 0 < length field
  pub digits : Each (λ (b : ℕ). (digit 0 ≤ b) × (b ≤ digit 9)) field
  pub value : value_from 0 field ≡ n

abbrev pub WholeLaw : Type 0
WholeLaw = (field : List ℕ) (n : ℕ) → plain_field field ≡ Figure n → IsWhole field n

-- decimals with their point, if there are any
abbrev pub pointed : List ℕ → List ℕ
pointed [] = []
pointed (d ∷ ds) = point ∷ d ∷ ds

-- a field that is read as a figure is one digit or more, then at most a point and one to three digits, and nothing else, and they give that number
pub record IsFigure (unit : ℕ) (field : List ℕ) (n : ℕ) : Type 0 where
  pub before : List ℕ
  pub after : List ℕ
  pub parts : field ≡ before ++ pointed after
  pub some : 0 < length before
  pub few : length after ≤ decimals
  pub digits : Each (λ (b : ℕ). (digit 0 ≤ b) × (b ≤ digit 9)) (before ++ after)
  pub value : n ≡ (1000 * value_from 0 before + value_from 0 after * 10 ^ (decimals - length after)) * unit

abbrev pub FigureLaw : Type 0
FigureLaw = (unit : ℕ) (field : List ℕ) (n : ℕ) → figure_field unit field ≡ Figure n → IsFigure unit field n
