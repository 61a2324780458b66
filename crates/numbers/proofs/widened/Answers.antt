-- `numbers::widened` meets its contract: the array is made by the numbers of its part.
use Rattle.std.proofs.Common.{rules}
use borrow.Author.Tests.{tests}
use lib.ListN.{get_or}
use Prim.Native.Nat.{◌+◌}
use Rattle.numbers.proofs.ByIndex.{from_fn_is}
use Rattle.numbers.proofs.widened.Goals as goal

pub returns : goal.returns
returns g c =
    from_fn_is _ (λ k. get_or c.args.numbers.now (c.args.from + k) 0) _ _ (λ i y q below called. search (rules, tests)) c.from_fn.ensures.items
