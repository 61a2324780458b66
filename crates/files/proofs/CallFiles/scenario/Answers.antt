-- `files::CallFiles::scenario` meets its contract: refused by the site file or by the foods block, or read.
use Rattle.std.proofs.Common.{refl, sym, ◌∙◌}
use Rattle.std.proofs.lemmas.Result.{err_from_is_err_and}
use Rattle.numbers.proofs.Refusals.{or_else-last}
use Rattle.site.proofs.FieldsWithin.{site_refused, site_accepted}
use Rattle.files.proofs.ReadAnswers.{first_refused}
use Rattle.files.proofs.CallFiles.scenario.Goals as goal

pub returns-in_err-own-clause-number : goal.returns-in_err-own-clause-number
returns-in_err-own-clause-number c =
    let p = err_from_is_err_and c.from_residual.result c.from_residual.ensures.1 in
    rw (p.1, p.2) (first_refused _ _ _ (site_refused c.args.self.now.site.now _ c.in_err-own.ensures))

pub returns-in_err-figures-in-Some-clause-number : goal.returns-in_err-figures-in-Some-clause-number
returns-in_err-figures-in-Some-clause-number c =
    let p = err_from_is_err_and c.from_residual-in_err-figures-in-Some.result c.from_residual-in_err-figures-in-Some.ensures.1 in
    let own = site_accepted c.args.self.now.site.now _ c.in_ok-own.ensures in
    let e = c.in_err-figures-in-Some.ensures in
    rw (p.1, p.2, ← own, c.in-Some.is) (e.number ∙ sym (or_else-last _))

pub returns-in-None-clause-number : goal.returns-in-None-clause-number
returns-in-None-clause-number c =
    let own = site_accepted c.args.self.now.site.now _ c.in_ok-own.ensures in
    rw (← own, c.in-None.is) refl

pub returns-in_ok-figures-in-Some-clause-number : goal.returns-in_ok-figures-in-Some-clause-number
returns-in_ok-figures-in-Some-clause-number c =
    let own = site_accepted c.args.self.now.site.now _ c.in_ok-own.ensures in
    let e = c.in_ok-figures-in-Some.ensures in
    rw (← own, c.in-Some.is) (e.number ∙ sym (or_else-last _))
