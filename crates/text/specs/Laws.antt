-- The law of the decimal digits.
-- Assumes nothing.
use Rattle.std.specs.Prelude.{◌≡◌, ℕ, ◌+◌, ◌-◌, ◌*◌, ◌^◌, ◌≤◌, ◌<◌, List, [], ◌∷◌, length, get_or}
use Rattle.text.specs.Decimal.{decimal}

-- the number that digits give after the number v
unfoldable pub value_from : ℕ → List ℕ → ℕ
value_from v [] = v
value_from v (d ∷ ds) = value_from (10 * v + (d - 48)) ds

-- how a number is written: its digits give it, each is a byte `0` to `9`, and no `0` stands before another digit
pub record IsDecimal (n : ℕ) (ds : List ℕ) : Type 0 where
  pub value : value_from 0 ds ≡ n
  pub digits : (i : ℕ) → i < length ds → (48 ≤ get_or ds i 0) × (get_or ds i 0 ≤ 57)
  pub one : n < 10 → length ds ≡ 1
  pub first : 10 ≤ n → 48 < get_or ds 0 0

-- the decimal digits of a number that ten digits hold are how it is written
abbrev pub DecimalLaw : Type 0
DecimalLaw = (n : ℕ) → n < 10 ^ 10 → IsDecimal n (decimal n)
