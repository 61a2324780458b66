-- `state::capped_burden` meets its contract: the burden is the sum of the seven compartments.
use Rattle.std.proofs.Common.{◌≡◌, length, rules}
use Rattle.state.proofs.StateCheck.{capped_burden}
use Rattle.state.proofs.capped_burden.Goals as goal

pub returns : goal.returns
returns c =
    let lead = c.args.state.now.lead in
    let seven : length lead ≡ 7 = search rules in
    capped_burden lead seven c.capped_sum.ensures
