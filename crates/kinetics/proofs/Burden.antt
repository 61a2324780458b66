-- The burden is the sum of the seven compartments.
-- Assumes nothing.
use Rattle.std.proofs.Common.{◌≡◌, ℕ, List, [], ◌∷◌, length, sum, arith}
use Rattle.numbers.specs.Sums.{sum_to}
use Rattle.kinetics.specs.Step.{burden}

pub burden_is_sum : (lead : List ℕ) → length lead ≡ 7 → sum lead ≡ burden lead
unfolding sum_to
burden_is_sum [] h = absurd (omega arith)
burden_is_sum (a ∷ []) h = absurd (omega arith)
burden_is_sum (a ∷ b ∷ []) h = absurd (omega arith)
burden_is_sum (a ∷ b ∷ c ∷ []) h = absurd (omega arith)
burden_is_sum (a ∷ b ∷ c ∷ d ∷ []) h = absurd (omega arith)
burden_is_sum (a ∷ b ∷ c ∷ d ∷ e ∷ []) h = absurd (omega arith)
burden_is_sum (a ∷ b ∷ c ∷ d ∷ e ∷ f ∷ []) h = absurd (omega arith)
burden_is_sum (a ∷ b ∷ c ∷ d ∷ e ∷ f ∷ g ∷ []) h = omega arith
burden_is_sum (a ∷ b ∷ c ∷ d ∷ e ∷ f ∷ g ∷ x ∷ xs) h = absurd (omega arith)
