-- `site::read_block` meets its contract: each way out is one case of `read_site_as`.
use Rattle.std.proofs.Common.{refl}
use Rattle.std.proofs.lemmas.Result.{err_from_is_err_and}
use Rattle.refusal.proofs.Numbers.{some_number}
use Rattle.site.proofs.ReadAnswers.{read_block, read_limits, read_scenario}
use Rattle.site.proofs.read_block.Goals as goal

pub returns-in_err-check_block : goal.returns-in_err-check_block
returns-in_err-check_block c =
    let p = err_from_is_err_and c.from_residual.result c.from_residual.ensures.1 in
    rw (p.1, p.2) (read_block c.args.edition c.args.site.now c.told-site (rw c.form.ensures at c.in_err-check_block.ensures) (some_number _))

pub returns-in_err-check : goal.returns-in_err-check
returns-in_err-check c =
    let p = err_from_is_err_and c.from_residual-in_err-check.result c.from_residual-in_err-check.ensures.1 in
    rw (p.1, p.2)
    (read_limits c.args.edition c.args.site.now c.told-site (rw c.form.ensures at c.in_ok-check_block.ensures) refl c.read_numbers.ensures
    (rw c.read_numbers-2.ensures at c.places_of-dust_places.ensures)
    c.in_err-check.ensures (some_number _))

pub returns : goal.returns
returns c =
    read_scenario c.args.edition c.args.site.now c.told-site (rw c.form.ensures at c.in_ok-check_block.ensures) refl c.read_numbers.ensures
    (rw c.read_numbers-2.ensures at c.places_of-dust_places.ensures)
    c.in_ok-check.ensures refl c.scenario_of.ensures
