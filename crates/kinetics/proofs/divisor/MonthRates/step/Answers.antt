-- `kinetics::divisor::MonthRates::step` meets its contract: `parts` gathers what the calls give, and `Assembly` puts the new state together.
use mathlib.Core.Path.{ap}
use Prim.Native.Nat.{ℕ, ◌+◌}
use native.Mathlib.Omega.{arith}
use Rattle.kinetics.proofs.Bounds.{urine_fits}
use Rattle.kinetics.proofs.Assembly.{Parts, parts_within_total, parts_make_next}
use Rattle.kinetics.proofs.divisor.MonthRates.step.Goals as goal
use Rattle.kinetics.proofs.divisor.MonthRates.step.Goals.{After-burden}

-- what the calls before give
abbrev parts : (c : After-burden) → (let a = c.args in Parts a.self.now.rates a.state.now a.uptake)
parts c =
    record {
      t = c.burden.result + c.args.uptake;
      p = c.solved_plasma-p.result;
      m1 = c.new_amount-red_cells.result;
      m2 = c.new_amount-liver.result;
      m3 = c.new_amount-kidney.result;
      m4 = c.new_amount-other.result;
      m5 = c.new_amount-trabecular.result;
      m6 = c.new_amount-cortical.result;
      x = c.excreted-urine.result;
      y = c.excreted-faeces.result;
      z = c.excreted-skin.result;
      total = ap (λ (n : ℕ). n + c.args.uptake) c.burden.ensures;
      solved = c.solved_plasma-p.ensures;
      new1 = c.new_amount-red_cells.ensures.value;
      new2 = c.new_amount-liver.ensures.value;
      new3 = c.new_amount-kidney.ensures.value;
      new4 = c.new_amount-other.ensures.value;
      new5 = c.new_amount-trabecular.ensures.value;
      new6 = c.new_amount-cortical.ensures.value;
      urine = c.excreted-urine.ensures.value;
      faeces = c.excreted-faeces.ensures.value;
      skin = c.excreted-skin.ensures.value;
    }

pub excreted-urine-requires : goal.excreted-urine-requires
excreted-urine-requires c = urine_fits c.requires c.solved_plasma-p.ensures

pub overflow_sub-plasma : goal.overflow_sub-plasma
overflow_sub-plasma c = omega (arith, parts_within_total (parts (goal.at.overflow_sub-plasma c).After-burden))

pub overflow_sub-plasma-2 : goal.overflow_sub-plasma-2
overflow_sub-plasma-2 c = omega (arith, parts_within_total (parts (goal.at.overflow_sub-plasma-2 c).After-burden))

pub overflow_add-urine_ledger : goal.overflow_add-urine_ledger
overflow_add-urine_ledger c = omega (arith, parts_within_total (parts (goal.at.overflow_add-urine_ledger c).After-burden))

pub overflow_add-faeces_ledger : goal.overflow_add-faeces_ledger
overflow_add-faeces_ledger c = omega (arith, parts_within_total (parts (goal.at.overflow_add-faeces_ledger c).After-burden))

pub overflow_add-skin_ledger : goal.overflow_add-skin_ledger
overflow_add-skin_ledger c = omega (arith, parts_within_total (parts (goal.at.overflow_add-skin_ledger c).After-burden))

pub returns : goal.returns
returns c = parts_make_next (parts (goal.at.returns c).After-burden)
