-- `cardline::put_lines` meets its contract: the lines of the answers that the group gives.
use Rattle.std.proofs.Common.{ℕ, List, length, map, ap, ap₂, ◌∙◌}
use Rattle.cardline.specs.Cardline.{row_line, joined}
use Rattle.cardline.specs.Groups.{group_lines}
use Rattle.cardline.proofs.put_lines.Goals as goal

pub returns-clause-bytes : goal.returns-clause-bytes
unfolding group_lines
returns-clause-bytes c = c.put_rows.ensures ∙ ap (λ xs. joined (map row_line xs)) c.answers_of-answers.ensures.rows

pub returns-clause-value : goal.returns-clause-value
returns-clause-value c = ap₂ (λ (l : List ℕ) (d : ℕ). record { bytes = length l; decodes = d }) (returns-clause-bytes c) c.answers_of-answers.ensures.decodes
