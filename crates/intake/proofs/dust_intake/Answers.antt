-- `intake::dust_intake` meets its contract: the sum of the places' parts, and with the house's, fits.
use Rattle.std.proofs.Common.{arith, rules, ap, ap₂, ◌∙◌, ◌+◌}
use borrow.Author.Tests.{tests}
use Rattle.numbers.proofs.RangeSums.{range_sum, range_fits}
use Rattle.site.specs.DustPlaces.{place_count}
use Rattle.intake.specs.Intake.{place_dust, dust_intake}
use Rattle.intake.proofs.Fits.{places_most}
use Rattle.intake.proofs.dust_intake.Goals as goal

pub sum-away-requires-clause-fits : goal.sum-away-requires-clause-fits
sum-away-requires-clause-fits c =
    range_fits _ (place_dust c.args.limited.now.exposure) place_count c.map.ensures.source c.map.ensures.closure (λ x r q k. search (rules, tests)) _
    (omega (arith, places_most c.args.limited.now.within))

pub overflow_add-result : goal.overflow_add-result
overflow_add-result c =
    let away = range_sum _ (place_dust c.args.limited.now.exposure) place_count c.map.ensures.source c.map.ensures.closure (λ x r q k. search (rules, tests)) _ c.sum-away.ensures.ran in
    omega (arith, away, places_most c.args.limited.now.within, c.house_dust.ensures.small)

pub returns : goal.returns
unfolding dust_intake
returns c =
    let away = range_sum _ (place_dust c.args.limited.now.exposure) place_count c.map.ensures.source c.map.ensures.closure (λ x r q k. search (rules, tests)) _ c.sum-away.ensures.ran in
    ap₂ ◌+◌ c.house_dust.ensures.value away
