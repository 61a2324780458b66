-- `uptake::absorbable::Absorbable::new` meets its contract: the list has the q of each medium, and its sum is A.
use Rattle.std.proofs.Common.{◌≡◌, ◌∙◌, rules}
use Rattle.numbers.specs.Choice.{tab}
use Rattle.numbers.proofs.ByIndex.{from_fn_is}
use Rattle.uptake.specs.Uptake.{absorbable}
use Rattle.uptake.proofs.Absorbed.{absorbable_sum}
use Rattle.uptake.proofs.absorbable.Absorbable.new.Goals as goal

pub invariant_of-result : goal.invariant_of-result
invariant_of-result c =
    let passed = c.args.passed.now in
    let e = passed.exposure.now.exposure in
    let media : c.from_fn-media.result ≡ tab 5 (absorbable e) = from_fn_is _ _ 5 _ (λ i y q l k. search rules) c.from_fn-media.ensures.items in
    record { passed = passed.passed; own = record { listed = media; summed = c.route_sum-total.ensures.value ∙ absorbable_sum e media } }
