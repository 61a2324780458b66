-- A number as decimal digits.
-- Assumes nothing.
use Rattle.std.specs.Prelude.{ℕ, zero, suc, ◌+◌, ◌/◌, ◌%◌, cond, List, [], ◌∷◌, ◌++◌, ltb}

-- the byte of a digit below 10
abbrev pub digit : ℕ → ℕ
digit d = 48 + d

-- the decimal digits of n, without leading zeros, if k digits hold it
unfoldable pub digits_within : ℕ → ℕ → List ℕ
digits_within zero n = []
digits_within (suc k) n = cond (ltb n 10) (digit n ∷ []) (digits_within k (n / 10) ++ (digit (n % 10) ∷ []))

-- the decimal digits of a number below 10^10, ten digits at most
abbrev pub decimal : ℕ → List ℕ
decimal n = digits_within 10 n
