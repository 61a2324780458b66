-- `block::read::is_zero` meets its contract: each byte up to `to`, but for the first `from`, is tested.
use Rattle.std.proofs.Common.{rules, ◌∙◌, take}
use Rattle.std.proofs.lemmas.Iterator.{YieldsList-from_slice}
use Rattle.std.proofs.lemmas.Iterator.Adapters.{YieldsList-from_skip}
use Rattle.std.proofs.lemmas.Iterator.Consumers.{YieldsList-at}
use Rattle.std.proofs.lemmas.Iterator.Search.{all_from_yields_List}
use borrow.Author.Tests.{tests}
use lib.Dec.{eqb}
use Rattle.block.proofs.Zeros.{zeros_skipped}
use Rattle.block.proofs.read.is_zero.Goals as goal

pub returns : goal.returns
returns c =
    let a = c.args in
    all_from_yields_List (λ byte. eqb byte 0) _ _ _ c.all.ensures.ran
    (YieldsList-from_skip a.from (YieldsList-at c.skip.ensures.source (YieldsList-from_slice (take a.to a.s.now) (cc))) (cc))
    (λ x b q k. search (rules, tests))
    ∙ zeros_skipped a.s.now a.to c.requires a.from
