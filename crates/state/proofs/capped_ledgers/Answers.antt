-- `state::capped_ledgers` meets its contract: what has left is the sum of the three ledgers.
use Rattle.std.proofs.Common.{◌≡◌, length, rules}
use Rattle.state.proofs.StateCheck.{capped_ledgers}
use Rattle.state.proofs.capped_ledgers.Goals as goal

pub returns : goal.returns
returns c =
    let ledgers = c.args.state.now.ledgers in
    let three : length ledgers ≡ 3 = search rules in
    capped_ledgers c.args.state.now three c.capped_sum.ensures
