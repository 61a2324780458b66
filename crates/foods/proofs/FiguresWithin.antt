-- The figures of an accepted foods block are within their limits, and its check is right.
-- Assumes nothing.
use mathlib.Core.Path.{◌≡◌, sym, subst, ◌∙◌}
use mathlib.Core.List.{List}
use Prim.Native.Nat.{ℕ}
use native.Mathlib.Omega.{arith}
use lib.ListN.{get_or}
use Rattle.numbers.proofs.Refusals.{first_of_none, unless_none, OfInput, unless_of_input, first_of_of_input}
use Rattle.block.proofs.BlockRefusals.{block_of_input}
use Rattle.block.proofs.Sealed.{accepted_check}
use Rattle.foods.specs.Limits.{FoodsLimits}
use Rattle.foods.specs.Foods.{foods_form, figures_of, foods_refusals, foods_refusal, foods_figures}
use Rattle.foods.specs.Laws.{FoodsWithin, RightCheck}
use Rattle.foods.proofs.FigureTests.{fit_limits}

module _ (block : List ℕ) (passed : foods_refusal block ≡ 0) where
  none : (k : ℕ) → get_or (foods_refusals block) k 0 ≡ 0
  unfolding foods_refusal
  none = first_of_none (foods_refusals block) passed

  -- an accepted block's figures are those that it holds
  pub accepted_figures : foods_figures block ≡ figures_of block
  unfolding foods_figures
  accepted_figures = rw passed

pub foods_within : FoodsWithin
foods_within block passed =
    subst (λ (f : List ℕ). FoodsLimits f) (sym (accepted_figures block passed))
    (fit_limits (figures_of block) (unless_none _ 10 (omega arith) (none block passed 2)) (unless_none _ 11 (omega arith) (none block passed 3)))

-- for a caller of the reader
pub read_within : (block : List ℕ) {figures : List ℕ} {r : ℕ} → r ≡ foods_refusal block → figures ≡ foods_figures block → r ≡ 0 → FoodsLimits figures
read_within block refusal left accepted =
    subst (λ (f : List ℕ). FoodsLimits f) (sym left) (foods_within block (sym refusal ∙ accepted))

pub right_check : RightCheck
right_check block passed = accepted_check block foods_form (none block passed 1)

-- a foods block's refusals are from the input
pub foods_of_input : (block : List ℕ) → OfInput (foods_refusal block)
unfolding foods_refusal
foods_of_input block =
    first_of_of_input (foods_refusals block)
    (unless_of_input _ 1 (omega arith), (block_of_input block foods_form, (unless_of_input _ 10 (omega arith), (unless_of_input _ 11 (omega arith), tt))))
