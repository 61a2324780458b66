-- `survey::row_answer` meets its contract: what is kept of a row answers as the row.
use mathlib.Core.Path.{◌∙◌}
use Rattle.steps.specs.Steps.{steps_a_day}
use Rattle.survey.proofs.RowLaws.{kept_law}
use Rattle.survey.proofs.row_answer.Goals as goal

pub returns : goal.returns
returns c = c.kept_answer.ensures ∙ rw c.of-kept.ensures (kept_law steps_a_day _ _)
