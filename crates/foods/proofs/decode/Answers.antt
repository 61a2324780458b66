-- `foods::decode` meets its contract: each way out is one case of `foods_refusal`.
use Rattle.std.proofs.Common.{◌≡◌, true}
use Rattle.std.proofs.lemmas.Result.{err_from_is_err_and}
use Rattle.numbers.specs.Choice.{unless}
use Rattle.refusal.proofs.Numbers.{some_number}
use Rattle.foods.specs.Foods.{figures_of, foods_refusal}
use Rattle.foods.proofs.ReadAnswers.{stored, stored_figures, length_refused, header_refused, refusal_by_tests, accepted_block}
use Rattle.foods.proofs.decode.Goals as goal
use Rattle.foods.proofs.decode.Goals.{After-shares_fit-shares, After-amounts_fit-amounts}

-- the figures stored are those that the block holds
read : (c : After-shares_fit-shares) → stored c.read_numbers.new.target c.read_numbers-2.new.target c.args.figures.now ≡ figures_of c.args.block.now
read c =
    let array = c.in-Ok.ensures.1 in
    stored_figures c.args.block.now c.args.figures.now c.told-figures _ (rw array.same at c.read_numbers.ensures) _ (rw array.same at c.read_numbers-2.ensures)

accepted : (c : After-amounts_fit-amounts) → c.shares_fit-shares.result ≡ true → c.amounts_fit-amounts.result ≡ true → 0 ≡ foods_refusal c.args.block.now
unfolding unless
accepted c shares amounts =
    let array = c.in-Ok.ensures.1 in
    let by = refusal_by_tests c.args.block.now array.long (rw array.same at c.in_ok-check_block.ensures)
    (read (goal.at.After-amounts_fit-amounts c).After-shares_fit-shares) c.shares_fit-shares.ensures c.amounts_fit-amounts.ensures in
    rw (shares, amounts) at by

pub returns-in_default-clause-number : goal.returns-in_default-clause-number
returns-in_default-clause-number c = length_refused c.args.block.now c.in_default.ensures.1

pub returns-in_err-check_block-clause-number : goal.returns-in_err-check_block-clause-number
returns-in_err-check_block-clause-number c =
    let p = err_from_is_err_and c.from_residual.result c.from_residual.ensures.1 in
    let array = c.in-Ok.ensures.1 in
    rw (p.1, p.2) (header_refused c.args.block.now array.long _ (rw array.same at c.in_err-check_block.ensures) (some_number _))

pub returns-then-not-shares-clause-number : goal.returns-then-not-shares-clause-number
unfolding unless
returns-then-not-shares-clause-number c =
    let array = c.in-Ok.ensures.1 in
    let by = refusal_by_tests c.args.block.now array.long (rw array.same at c.in_ok-check_block.ensures)
    (read (goal.at.returns-then-not-shares-clause-number c).After-shares_fit-shares) c.shares_fit-shares.ensures c.amounts_fit-amounts.ensures in
    rw c.if-not-shares.true at by

pub returns-then-not-amounts-clause-number : goal.returns-then-not-amounts-clause-number
unfolding unless
returns-then-not-amounts-clause-number c =
    let array = c.in-Ok.ensures.1 in
    let by = refusal_by_tests c.args.block.now array.long (rw array.same at c.in_ok-check_block.ensures)
    (read (goal.at.returns-then-not-amounts-clause-number c).After-shares_fit-shares) c.shares_fit-shares.ensures c.amounts_fit-amounts.ensures in
    rw (c.if-not-shares.false, c.if-not-amounts.true) at by

pub returns-clause-number : goal.returns-clause-number
returns-clause-number c = accepted (goal.at.returns-clause-number c).After-amounts_fit-amounts c.if-not-shares.false c.if-not-amounts.false

pub returns-clause-figures_after : goal.returns-clause-figures_after
returns-clause-figures_after c =
    let array = c.in-Ok.ensures.1 in
    accepted_block c.args.block.now array.long (rw array.same at c.in_ok-check_block.ensures) (read (goal.at.returns-clause-figures_after c).After-shares_fit-shares)
    (accepted (goal.at.returns-clause-figures_after c).After-amounts_fit-amounts c.if-not-shares.false c.if-not-amounts.false)
