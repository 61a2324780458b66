-- `site::dust_places::shares_away` meets its contract: five shares within their limits fit.
use Rattle.std.proofs.Common.{arith, rules}
use borrow.Author.Tests.{tests}
use Rattle.numbers.proofs.RangeSums.{range_sum, range_fits}
use Rattle.site.specs.DustPlaces.{place_count, share_of, shares_away}
use Rattle.site.proofs.PlaceLimits.{shares_small}
use Rattle.site.proofs.dust_places.shares_away.Goals as goal

pub sum-requires-clause-fits : goal.sum-requires-clause-fits
unfolding shares_away
sum-requires-clause-fits c =
    range_fits _ (share_of c.args.places.now) place_count c.map.ensures.source c.map.ensures.closure (λ x r q k. search (rules, tests)) _
    (omega (arith, shares_small c.args.places.now c.requires))

pub returns : goal.returns
unfolding shares_away
returns c =
    range_sum _ (share_of c.args.places.now) place_count c.map.ensures.source c.map.ensures.closure (λ x r q k. search (rules, tests)) _
    c.sum.ensures.ran
