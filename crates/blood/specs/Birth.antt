-- The amounts at birth (document 01, "Birth and blood").
-- Assumes nothing.
use Rattle.std.specs.Prelude.{ℕ, ◌+◌, ◌-◌, ◌*◌, ◌/◌, List, [], ◌∷◌}
use Rattle.row.specs.declared.Row.{Row}
use Rattle.row.specs.Row.{out, back}
use Rattle.kinetics.specs.declared.State.{State}

-- PB (B-7a)
unfoldable pub birth_blood : ℕ → ℕ
birth_blood mother = 85 * mother / 100

-- the blood total
unfoldable pub birth_total : Row → ℕ → ℕ
birth_total row mother = birth_blood mother * row.blood_volume

-- P (B-7b, with plus), and the red cells, the rest (B-7c)
unfoldable pub birth_plasma : Row → ℕ → ℕ
birth_plasma row mother = birth_total row mother * back row.rates 0 / (out row.rates 0 + back row.rates 0)

unfoldable pub birth_red_cells : Row → ℕ → ℕ
birth_red_cells row mother = birth_total row mother - birth_plasma row mother

-- the others (B-7e to B-7i), from their ratio to the blood in tenths and their weight
unfoldable pub birth_organ : ℕ → ℕ → ℕ → ℕ
birth_organ ratio blood weight = ratio * blood * weight / 10

unfoldable pub birth_lead : Row → ℕ → List ℕ
birth_lead row mother =
    let blood = birth_blood mother in
    birth_plasma row mother
    ∷ birth_red_cells row mother
    ∷ birth_organ 130 blood row.liver
    ∷ birth_organ 106 blood row.kidney
    ∷ birth_organ 160 blood row.other
    ∷ birth_organ 512 blood row.trabecular
    ∷ birth_organ 789 blood row.cortical
    ∷ []

-- ledgers 0, month 0
unfoldable pub birth_state : Row → ℕ → State
birth_state row mother = record { month = 0; lead = birth_lead row mother; ledgers = 0 ∷ 0 ∷ 0 ∷ [] }
