-- `blood::birth::birth_state` meets its contract: the products fit, and `birth_state_is` puts the state together.
use native.Mathlib.Omega.{arith}
use Rattle.blood.proofs.BirthAmounts.{red_cell_rates_fit, birth_state_is}
use Rattle.blood.proofs.birth.birth_state.Goals as goal

pub overflow_add-plasma : goal.overflow_add-plasma
overflow_add-plasma c = omega (arith, red_cell_rates_fit c.requires.row)

pub returns : goal.returns
returns c =
    birth_state_is c.args.row.now c.args.mother c.birth_blood-blood.ensures.value
    c.birth_organ-liver.ensures c.birth_organ-kidney.ensures
    c.birth_organ-other.ensures c.birth_organ-trabecular.ensures c.birth_organ-cortical.ensures
