-- `group::courses::last_month` meets its contract: the greatest of the months that the rows are run.
use Rattle.std.proofs.Common.{ℕ, unwrap_or, refl, ap, ◌∙◌, arith, rules, tests}
use Rattle.std.specs.List.{range_with_len}
use Rattle.std.proofs.lemmas.Iterator.{YieldsList-from_range, YieldsList-from_map}
use Rattle.std.proofs.lemmas.Iterator.Consumers.{YieldsList-at, reduce_from_yields_List}
use Rattle.std.proofs.lemmas.List.Folds.{max_of_map}
use Rattle.roll.specs.Words.{start_at}
use Rattle.group.specs.Internal.{until_of}
use Rattle.group.proofs.LastMonths.{last_of}
use Rattle.group.proofs.courses.last_month.Goals as goal

pub returns : goal.returns
returns c =
    let words = c.args.roll.now.words in
    let h = λ (i : ℕ). until_of (start_at words i) in
    let rows = c.rows.result in
    rw c.rows.ensures at
    (last_of words rows _
    (c.unwrap_or.ensures
    ∙ ap (λ o. unwrap_or o 0)
    (reduce_from_yields_List _ c.map.result _ c.max.ensures.ran
    (YieldsList-from_map _ h (YieldsList-at c.map.ensures.source (YieldsList-from_range 0 rows rows refl (omega arith))) c.map.ensures.closure (λ x r q k. search (rules, tests))))
    ∙ max_of_map h (range_with_len 0 rows)))
