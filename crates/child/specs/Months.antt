-- Months one after the other, of any month call, and what a run answers of them.
-- Assumes nothing.
use Rattle.std.specs.Prelude.{ℕ, zero, suc, List, [], ◌∷◌, ◌++◌, length, drop}
use Rattle.numbers.specs.Choice.{answer_by}
use Rattle.kinetics.specs.declared.State.{State}
use Rattle.child.specs.Answers.{MonthAnswer, RunAnswer}

-- months that were run: the refusal that ended them, or 0; the blood figures of the months done; the last month end
pub record MonthsRun : Type 0 where
  pub refusal : ℕ
  pub figures : List ℕ
  pub state : State

-- no month is done: the refusal that ended the run before its first month, or 0
abbrev pub no_month : ℕ → State → MonthsRun
no_month r a = record { refusal = r; figures = []; state = a }

-- an accepted month, and then the months run from the state that it answered
abbrev pub month_then : MonthAnswer → MonthsRun → MonthsRun
month_then m rest = record { refusal = rest.refusal; figures = m.blood ∷ rest.figures; state = rest.state }

-- what a run answers that begins with the month m: m and then the rest if m is accepted, else m's refusal and no month
abbrev pub and_then : MonthAnswer → MonthsRun → MonthsRun
and_then m rest = answer_by m.refusal (month_then m rest) (λ r. no_month r m.state)

-- n months from the state a, each made by the call from what the one before answered; the first refusal ends them
unfoldable pub months_by : (State → MonthAnswer) → ℕ → State → MonthsRun
months_by call zero a = no_month 0 a
months_by call (suc n) a = and_then (call a) (months_by call n (call a).state)

-- what a run answers: the months done are as many as the figures written
abbrev pub run_answer : MonthsRun → RunAnswer
run_answer r = record { refusal = r.refusal; months = length r.figures; state = r.state }

-- what the lent list holds: the figures, and then what it held
abbrev pub run_list : MonthsRun → List ℕ → List ℕ
run_list r before = r.figures ++ drop (length r.figures) before
