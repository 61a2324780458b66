-- The laws of birth and of the blood figure.
-- Assumes nothing.
use Rattle.std.specs.Prelude.{◌≡◌, ℕ, ◌+◌, ◌≤◌, List, [], ◌∷◌}
use Rattle.row.specs.declared.Row.{Row}
use Rattle.row.specs.Limits.{RowLimits}
use Rattle.kinetics.specs.Step.{plasma, amount, burden, burden_limit}
use Rattle.blood.specs.Birth.{birth_total, birth_lead, birth_state}
use Rattle.blood.specs.Blood.{blood_of}

-- birth: plasma and red cells are the blood total, and the seven compartments together stay far below 2^64
pub record BirthLaw (row : Row) (mother : ℕ) : Type 0 where
  pub month : (birth_state row mother).month ≡ 0
  pub lead : (birth_state row mother).lead ≡ birth_lead row mother
  pub ledgers : (birth_state row mother).ledgers ≡ 0 ∷ 0 ∷ 0 ∷ []
  pub blood : plasma (birth_lead row mother) + amount (birth_lead row mother) 0 ≡ birth_total row mother
  pub bounded : burden (birth_lead row mother) ≤ 726_325_000_000

abbrev pub BirthLaws : Type 0
BirthLaws = (row : Row) (mother : ℕ) → RowLimits row → mother ≤ 100_000 → BirthLaw row mother

-- the blood figure of a child that no refusal stops
abbrev pub BloodLaw : Type 0
BloodLaw = (row : Row) (lead : List ℕ) → RowLimits row → burden lead ≤ burden_limit → blood_of row lead ≤ 50_000_000
