-- A month of a child of accepted files: its uptake, its steps, its refusals in their order, and what is answered. s is the number of steps a day.
-- Assumes nothing.
use Rattle.std.specs.Prelude.{ℕ, ◌+◌, List, [], ◌∷◌}
use Rattle.numbers.specs.Choice.{first_of, answer_by}
use Rattle.site.specs.declared.Scenario.{Scenario}
use Rattle.exposure.specs.declared.Exposure.{Exposure}
use Rattle.exposure.specs.Exposure.{exposure_at}
use Rattle.row.specs.declared.Rates.{Rates}
use Rattle.row.specs.declared.Row.{Row}
use Rattle.row.specs.Row.{row_of}
use Rattle.uptake.specs.Age.{age_of}
use Rattle.intake.specs.Intake.{intake_refusal}
use Rattle.uptake.specs.Uptake.{day_uptake}
use Rattle.kinetics.specs.declared.State.{State}
use Rattle.blood.specs.Blood.{blood_of}
use Rattle.child.specs.Answers.{MonthAnswer}
use Rattle.state.specs.State.{state_refusal}
use Rattle.steps.specs.Steps.{days_a_month, days_shares, last_from, steps_refusal}

-- the month that a call from state a makes: the one after that of a
abbrev pub month_after : State → ℕ
month_after a = a.month + 1

-- the exposure of month m, by its age
abbrev pub exposure_in : Scenario → ℕ → Exposure
exposure_in scenario m = exposure_at scenario (age_of m)

-- the month whose body weight the saturation belongs to
abbrev pub saturation_month : ℕ
saturation_month = 24

-- T of month m: by the exposure of its age, and the body weights of its row and of the saturation's
unfoldable pub month_uptake : Scenario → List ℕ → ℕ → ℕ
month_uptake scenario table m = day_uptake (exposure_in scenario m) (row_of table m).body_weight (row_of table saturation_month).body_weight

-- the rates of month m are those of its row, whatever the state
abbrev pub month_rates : List ℕ → ℕ → State → Rates
month_rates table m a = (row_of table m).rates

-- what the steps of a month absorb: thirty days of T
unfoldable pub month_shares : ℕ → Scenario → List ℕ → ℕ → List ℕ
month_shares s scenario table m = days_shares s (month_uptake scenario table m) days_a_month

-- the end of a month from a: the state that its steps left, with the month's number
abbrev pub month_end : State → State → State
month_end a last = record { month = month_after a; lead = last.lead; ledgers = last.ledgers }

-- a refused month returns the state it was given, and blood 0; an accepted one its end
abbrev pub refused_month : ℕ → State → MonthAnswer
refused_month r a = record { refusal = r; state = a; blood = 0 }

abbrev pub accepted_month : State → State → Row → MonthAnswer
accepted_month a last row = record { refusal = 0; state = month_end a last; blood = blood_of row last.lead }

abbrev pub month_answer : ℕ → State → State → Row → MonthAnswer
month_answer r a last row = answer_by r (accepted_month a last row) (λ n. refused_month n a)

module _ (s : ℕ) (a : State) (scenario : Scenario) (table : List ℕ) where
  -- why a month of files that pass is refused: 20, 21, 9, 22
  abbrev pub child_refusals : List ℕ
  child_refusals =
      state_refusal a
      ∷ intake_refusal (exposure_in scenario (month_after a))
      ∷ steps_refusal (month_rates table (month_after a)) a (month_shares s scenario table (month_after a))
      ∷ []

  unfoldable pub child_refusal : ℕ
  child_refusal = first_of child_refusals

  -- the state that the month's steps leave
  unfoldable pub month_last : State
  month_last = last_from (month_rates table (month_after a)) a (month_shares s scenario table (month_after a))

  -- what a month of files that pass answers
  unfoldable pub child_month : MonthAnswer
  child_month = month_answer child_refusal a month_last (row_of table (month_after a))
