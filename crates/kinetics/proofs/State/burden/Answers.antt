-- `kinetics::State::burden` meets its contract: the burden is the sum of the seven.
use Rattle.std.proofs.Common.{◌≡◌, ◌<◌, ◌∙◌, length, sum, arith, rules}
use Rattle.std.proofs.iter.runs.Made.{chains}
use Rattle.kinetics.proofs.Burden.{burden_is_sum}
use Rattle.kinetics.proofs.State.burden.Goals as goal

pub sum-requires-clause-fits : goal.sum-requires-clause-fits
sum-requires-clause-fits c =
    let lead = c.args.self.now.lead in
    let seven : length lead ≡ 7 = search rules in
    let fits : sum lead < 18446744073709551616 = omega (arith, burden_is_sum lead seven) in
    search (rules, chains)

pub returns : goal.returns
returns c =
    let lead = c.args.self.now.lead in
    let seven : length lead ≡ 7 = search rules in
    let value : c.sum.result ≡ sum lead = search (rules, chains) in
    value ∙ burden_is_sum lead seven
