-- The blood figure (document 01, "Birth and blood").
-- Assumes nothing.
use Rattle.std.specs.Prelude.{ℕ, ◌+◌, ◌*◌, ◌/◌, List}
use Rattle.row.specs.declared.Row.{Row}
use Rattle.kinetics.specs.Step.{plasma, amount}

-- VE
unfoldable pub ecf_volume : Row → ℕ
ecf_volume row = 73 * row.blood_volume / 100

-- the part of P that is in the plasma itself (B-9g)
unfoldable pub plasma_part : Row → List ℕ → ℕ
plasma_part row lead = plasma lead * row.plasma_volume / (ecf_volume row + row.plasma_volume)

-- B-10
unfoldable pub blood_of : Row → List ℕ → ℕ
blood_of row lead = (amount lead 0 + plasma_part row lead) / row.blood_volume
