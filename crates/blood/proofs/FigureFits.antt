-- The blood figure fits 32 bits.
-- Assumes nothing.
use Prim.Native.Nat.{ℕ, ◌+◌, ◌/◌, ◌≤◌}
use mathlib.Core.List.{List}
use native.Mathlib.Nat.{mul-le-mul_left, div-mul-le_self}
use native.Mathlib.Omega.{arith}
use Rattle.numbers.specs.Sums.{sum_to}
use Rattle.row.specs.declared.Row.{Row}
use Rattle.row.specs.Limits.{RowLimits}
use Rattle.kinetics.specs.Step.{plasma, amount, burden, burden_limit}
use Rattle.blood.specs.Blood.{plasma_part, blood_of}
use Rattle.blood.specs.Laws.{BloodLaw}
use Rattle.kinetics.proofs.DivisorMargin.{part_le}

-- plasma and red cells are two of the seven
two_le_burden : (lead : List ℕ) → plasma lead + amount lead 0 ≤ burden lead
unfolding sum_to
two_le_burden lead = omega arith

module _ {row : Row} (lead : List ℕ) (lim : RowLimits row) (h : burden lead ≤ burden_limit) where
  plasma_part_le : plasma_part row lead ≤ plasma lead
  unfolding plasma_part
  plasma_part_le = part_le (plasma lead) (omega arith) (omega (arith, lim.plasma_least))

  pub blood_lead_le : amount lead 0 + plasma_part row lead ≤ burden_limit
  blood_lead_le = omega (arith, two_le_burden lead, plasma_part_le)

pub blood_law : BloodLaw
unfolding blood_of
blood_law row lead lim h =
    let x = amount lead 0 + plasma_part row lead in
    omega (
      arith,
      blood_lead_le lead lim h,
      div-mul-le_self x row.blood_volume,
      mul-le-mul_left (x / row.blood_volume) lim.blood_least,
    )
