-- The laws of the exact solution, and of a step, on the seven compartments and on a state.
-- Assumes nothing.
use mathlib.Core.Path.{refl}
use native.Mathlib.Omega.{arith}
use Rattle.kinetics.specs.Step.{next_lead, next}
use Rattle.margin.specs.Laws.{SolutionLaws, LeadLaws, StepLaws}
use Rattle.kinetics.proofs.DivisorMargin.{product_over-whole, out-sum, denominator_eq, product_pos}
use Rattle.kinetics.proofs.Balance.{never_cut_off, conservation}
use Rattle.margin.proofs.Margins.{margin_least, margin_most}

pub solution_law : SolutionLaws
solution_law r =
    record {
      over = product_over-whole r;
      whole = omega (arith, out-sum r);
      positive = omega (arith, denominator_eq r, product_pos r);
    }

pub lead_law : LeadLaws
unfolding next_lead
lead_law r lead u lim =
    record {
      whole = never_cut_off r lead u;
      conserved = conservation r lead u;
      margin = record { least = margin_least r lead u; most = margin_most r lead u lim };
    }

pub step_law : StepLaws
unfolding next
step_law r s u lim =
    record {
      month = refl;
      lead = refl;
      urine = refl;
      faeces = refl;
      skin = refl;
      law = lead_law r s.lead u lim;
    }
