-- The exact solution of demand 3 in whole numbers: plasma lead p' = N/Q (document 01, "One step").
-- Assumes nothing.
use Rattle.std.specs.Prelude.{ℕ, ◌+◌, ◌-◌, ◌*◌, ◌/◌}
use Rattle.numbers.specs.Sums.{sum_to, prod_to}
use Rattle.row.specs.declared.Rates.{Rates}
use Rattle.row.specs.Row.{unit, out, back}
use Rattle.kinetics.specs.Step.{compartment_divisor}

-- F, the product of the six Ei
unfoldable pub product : Rates → ℕ
product r = prod_to 6 (compartment_divisor r)

-- F/Ei
unfoldable pub product_over : Rates → ℕ → ℕ
product_over r i = product r / compartment_divisor r i

-- Q
unfoldable pub denominator : Rates → ℕ
denominator r = product r * (unit + r.urine + sum_to 6 (out r)) - sum_to 6 (λ i. out r i * back r i * product_over r i)

-- N, from any plasma lead p and amounts m
unfoldable pub numerator : Rates → ℕ → (ℕ → ℕ) → ℕ → ℕ
numerator r p m u = unit * (product r * (p + u) + sum_to 6 (λ i. back r i * m i * product_over r i))
