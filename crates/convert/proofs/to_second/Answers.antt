-- `convert::to_second` meets its contract: each way out is one case of `to_second_refusal`.
use Rattle.std.proofs.lemmas.Result.{err_from_is_err_and}
use Rattle.refusal.proofs.Numbers.{some_number}
use Rattle.convert.proofs.ConvertAnswers.{second_length, second_refused, second_made}
use Rattle.convert.proofs.to_second.Goals as goal

pub returns-then-target-ne-SITE_BYTES-clause-number : goal.returns-then-target-ne-SITE_BYTES-clause-number
returns-then-target-ne-SITE_BYTES-clause-number c = (second_length c.args.site.now c.args.target.now c.if-target-ne-SITE_BYTES.true).0

pub returns-then-target-ne-SITE_BYTES-clause-target_after : goal.returns-then-target-ne-SITE_BYTES-clause-target_after
returns-then-target-ne-SITE_BYTES-clause-target_after c = (second_length c.args.site.now c.args.target.now c.if-target-ne-SITE_BYTES.true).1

pub returns-in_err-scenario-clause-number : goal.returns-in_err-scenario-clause-number
returns-in_err-scenario-clause-number c =
    let p = err_from_is_err_and c.from_residual.result c.from_residual.ensures.1 in
    rw (p.1, p.2) (second_refused c.args.site.now c.args.target.now c.if-target-ne-SITE_BYTES.false _ (some_number _) c.in_err-scenario.ensures).0

pub returns-in_err-scenario-clause-target_after : goal.returns-in_err-scenario-clause-target_after
returns-in_err-scenario-clause-target_after c =
    (second_refused c.args.site.now c.args.target.now c.if-target-ne-SITE_BYTES.false _ (some_number _) c.in_err-scenario.ensures).1

pub returns-clause-number : goal.returns-clause-number
returns-clause-number c =
    (second_made c.args.site.now c.args.target.now c.if-target-ne-SITE_BYTES.false c.in_ok-scenario.ensures c.write_site.ensures.number
    c.write_site.ensures.target_after).0

pub returns-clause-target_after : goal.returns-clause-target_after
returns-clause-target_after c =
    (second_made c.args.site.now c.args.target.now c.if-target-ne-SITE_BYTES.false c.in_ok-scenario.ensures c.write_site.ensures.number
    c.write_site.ensures.target_after).1
