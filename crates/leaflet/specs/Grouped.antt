-- A number as decimal digits with a comma before each three.
-- Assumes nothing.
use Rattle.std.specs.Prelude.{ℕ, zero, suc, ◌/◌, ◌%◌, cond, List, [], ◌∷◌, ◌++◌, ltb}
use Rattle.text.specs.Decimal.{digit, decimal}

-- a comma and the last three digits of a number
abbrev pub last_three : ℕ → List ℕ
last_three n = 44 ∷ digit (n / 100 % 10) ∷ digit (n / 10 % 10) ∷ digit (n % 10) ∷ []

-- the decimal digits of n with a comma before each three, if k threes hold it
unfoldable pub grouped_within : ℕ → ℕ → List ℕ
grouped_within zero n = []
grouped_within (suc k) n = cond (ltb n 1_000) (decimal n) (grouped_within k (n / 1_000) ++ last_three n)

-- those of a number below 10^12
abbrev pub grouped : ℕ → List ℕ
grouped n = grouped_within 4 n
