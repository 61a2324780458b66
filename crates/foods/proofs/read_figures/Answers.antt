-- `foods::read_figures` meets its contract: zeros if the block is refused.
use Rattle.std.proofs.Common.{sym, ap, ◌∙◌, replicate, ℕ}
use Rattle.numbers.proofs.Refusals.{answer_refused}
use Rattle.refusal.proofs.Numbers.{some_number}
use Rattle.foods.specs.Foods.{figures_of, blank_figures, foods_refusal, foods_figures}
use Rattle.foods.proofs.read_figures.Goals as goal

pub returns-in-Err-clause-figures_after : goal.returns-in-Err-clause-figures_after
unfolding foods_figures
returns-in-Err-clause-figures_after c =
    c.fill.ensures.after (λ y e. e)
    ∙ ap (λ (n : ℕ). replicate n 0) c.decode.array_long
    ∙ sym (answer_refused (figures_of c.args.block.now) (λ n. blank_figures) (foods_refusal c.args.block.now) (λ z. some_number _ (c.in-Err.ensures.number ∙ z)))
