-- `figures::whole` meets its contract.
use mathlib.Core.Path.{sym, ◌∙◌}
use native.Mathlib.Omega.{arith}
use Rattle.figures.proofs.Figures.{whole_none, whole-start, whole_wrong, whole-next, whole_fits, whole_end}
use Rattle.figures.proofs.whole.Goals as goal

pub returns-then-digits-lt-DIGITS-clause-value : goal.returns-then-digits-lt-DIGITS-clause-value
returns-then-digits-lt-DIGITS-clause-value c = sym (whole_none c.args.digits.now (omega arith))

pub loop-digit-init : goal.loop-digit-init
loop-digit-init c = (whole-start _ (λ e. omega arith), c.requires)

pub returns-then-not-is_ascii_digit-clause-value : goal.returns-then-not-is_ascii_digit-clause-value
returns-then-not-is_ascii_digit-clause-value c =
    sym (whole_wrong _ _ _ c.loop-digit.invariant.0 c.loop-digit-test.true (sym c.is_ascii_digit.ensures.value ∙ c.if-not-is_ascii_digit.true))

pub loop-digit-preserved : goal.loop-digit-preserved
loop-digit-preserved c =
    (rw c.from.ensures (whole-next _ _ _ c.loop-digit.invariant.0 c.loop-digit-test.true (sym c.is_ascii_digit.ensures.value ∙ c.if-not-is_ascii_digit.false)), c.loop-digit.invariant.1)

pub returns-clause-value : goal.returns-clause-value
returns-clause-value c = whole_end _ _ _ c.loop-digit.invariant.0 c.loop-digit-test.false

pub returns-clause-small : goal.returns-clause-small
returns-clause-small c = whole_fits _ _ _ c.loop-digit.invariant.0 c.loop-digit.invariant.1
