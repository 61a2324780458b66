-- For the contracts between the functions: what the parts of a call ask of each other and promise. No open call's contract needs it.
-- Assumes nothing.
use Rattle.std.specs.Prelude.{ℕ, ◌≡◌, List, drop}
use Rattle.site.specs.declared.Scenario.{Scenario}
use Rattle.exposure.specs.declared.Exposure.{Exposure}
use Rattle.exposure.specs.Limits.{ExposureLimits}
use Rattle.row.specs.declared.Rates.{Rates}
use Rattle.row.specs.Row.{last_month, row_of}
use Rattle.row.specs.Limits.{RowLimits}
use Rattle.intake.specs.Intake.{intake_refusal}
use Rattle.uptake.specs.Uptake.{day_uptake}
use Rattle.uptake.specs.Laws.{Weights}
use Rattle.kinetics.specs.declared.State.{State}
use Rattle.state.specs.State.{state_refusal}
use Rattle.numbers.specs.Choice.{first_of, answer_by}
use Rattle.row.specs.declared.Row.{Row}
use Rattle.child.specs.Answers.{MonthAnswer}
use Rattle.steps.specs.Steps.{days_a_month, days_shares, last_from, steps_refusal}
use Rattle.child.specs.Months.{MonthsRun, months_by}
use Rattle.child.specs.Month.{month_after, exposure_in, saturation_month, refused_month, month_answer, child_refusals, month_last, child_month}

-- a month's steps, given its rates, its row and T
unfoldable pub stepped_month : ℕ → (State → Rates) → State → Row → ℕ → MonthAnswer
stepped_month s rates a row t = month_answer (steps_refusal rates a (days_shares s t days_a_month)) a (last_from rates a (days_shares s t days_a_month)) row

-- a month's exposure, its row, and the body weight that the saturation is given for, each within its limits
pub record MonthLimits (exposure : Exposure) (row : Row) (weight24 : ℕ) : Type 0 where
  pub exposed : ExposureLimits exposure
  pub booked : RowLimits row
  pub weights : Weights row.body_weight weight24

-- the three are those that a scenario and a table give the month after a's
pub record MonthGiven (scenario : Scenario) (table : List ℕ) (a : State) (exposure : Exposure) (row : Row) (weight24 : ℕ) : Type 0 where
  pub exposure_is : exposure ≡ exposure_in scenario (month_after a)
  pub row_is : row ≡ row_of table (month_after a)
  pub weight_is : weight24 ≡ (row_of table saturation_month).body_weight

-- a month by the three: after the state's refusals; and with them
module _ (s : ℕ) (a : State) (exposure : Exposure) (row : Row) (weight24 : ℕ) where
  unfoldable pub exposed_month : MonthAnswer
  exposed_month =
      answer_by (intake_refusal exposure) (stepped_month s (λ b. row.rates) a row (day_uptake exposure row.body_weight weight24)) (λ n. refused_month n a)

  unfoldable pub given_month : MonthAnswer
  given_month = answer_by (state_refusal a) exposed_month (λ n. refused_month n a)

-- a month by a scenario and a table, after the state's refusals
module _ (s : ℕ) (a : State) (scenario : Scenario) (table : List ℕ) where
  unfoldable pub month_from : MonthAnswer
  month_from =
      month_answer (first_of (drop 1 (child_refusals s a scenario table))) a (month_last s a scenario table) (row_of table (month_after a))

-- the months of a run of accepted files
unfoldable pub child_run : ℕ → State → Scenario → List ℕ → MonthsRun
child_run s a scenario table = months_by (λ b. child_month s b scenario table) last_month a
