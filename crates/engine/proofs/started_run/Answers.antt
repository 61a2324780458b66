-- `engine::started_run` meets its contract: refused by a length, its list, its files or birth, or the months.
use mathlib.Core.Path.{refl, sym, ◌∙◌}
use native.Mathlib.Omega.{arith}
use Rattle.std.proofs.lemmas.Bool.{false≢true}
use Rattle.std.proofs.lemmas.Result.{err_from_is_err_and}
use Rattle.refusal.specs.declared.Refusal.TheVariants.{WrongListLength}
use Rattle.steps.specs.Steps.{steps_a_day}
use Rattle.files.specs.CallFiles.{files_in}
use Rattle.engine.proofs.CallAnswers.{birth_files_read, run_refused, lengths_refuse, list_refuses, start_by_birth, files_refuse, birth_number, run_months}
use Rattle.engine.proofs.started_run.Goals as goal

pub returns-in_err-check_lengths : goal.returns-in_err-check_lengths
returns-in_err-check_lengths c =
    let p = err_from_is_err_and c.from_residual.result c.from_residual.ensures.1 in
    let whole = run_refused steps_a_day (files_in c.args.files.now) c.args.blood.now _ (lengths_refuse _ _ _ c.in_err-check_lengths.ensures) in
    record { value = rw (p.1, p.2) whole.0; blood_after = whole.1 }

pub returns-in_default : goal.returns-in_default
returns-in_default c =
    let whole = run_refused steps_a_day (files_in c.args.files.now) c.args.blood.now WrongListLength (list_refuses _ _ c.in_ok-check_lengths.ensures (λ e. false≢true (c.in_default.ensures.variant.1 (omega (arith, e))))) in
    record { value = whole.0; blood_after = whole.1 }

pub returns-in_err-accepted : goal.returns-in_err-accepted
returns-in_err-accepted c =
    let p = err_from_is_err_and c.from_residual-in_err-accepted.result c.from_residual-in_err-accepted.ensures.1 in
    let number = files_refuse _ _ c.in_ok-check_lengths.ensures (c.in-Some.ensures.variant.0 refl) _ c.in_err-accepted.ensures.number in
    let whole = run_refused steps_a_day (files_in c.args.files.now) c.args.blood.now _ number in
    record { value = rw (p.1, p.2) whole.0; blood_after = c.in-Some.ensures.cases.same ∙ whole.1 }

pub returns-in_err-child : goal.returns-in_err-child
returns-in_err-child c =
    let p = err_from_is_err_and c.from_residual-in_err-child.result c.from_residual-in_err-child.ensures.1 in
    let number =
    birth_number _ (c.in_err-child.ensures ∙ birth_files_read c.in_ok-accepted.ensures.child) ∙ sym (start_by_birth _ _ c.in_ok-check_lengths.ensures (c.in-Some.ensures.variant.0 refl))
    in
    let whole = run_refused steps_a_day (files_in c.args.files.now) c.args.blood.now _ number in
    record { value = rw (p.1, p.2) whole.0; blood_after = c.in-Some.ensures.cases.same ∙ whole.1 }

pub returns : goal.returns
returns c =
    let born = c.in_ok-child.ensures ∙ birth_files_read c.in_ok-accepted.ensures.child in
    let starts = birth_number _ born ∙ sym (start_by_birth _ _ c.in_ok-check_lengths.ensures (c.in-Some.ensures.variant.0 refl)) in
    let whole = run_months c.in_ok-accepted.ensures.child steps_a_day c.args.blood.now starts born (c.months.ensures.value, rw c.in-Some.ensures.cases.same at c.months.ensures.blood_after) in
    record { value = whole.0; blood_after = whole.1 }
