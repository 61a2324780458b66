-- What the code answers, as the definitions have it: a refusal by its number.
-- Assumes nothing.
use Rattle.std.specs.Prelude.{ℕ, Result, Ok, Err}
use Rattle.refusal.specs.declared.Refusal.{Refusal}
use Rattle.refusal.specs.Refusal.{number_of, number_in}
use Rattle.kinetics.specs.declared.State.{State}
use Rattle.state.specs.State.{zero_state}
use Rattle.child.specs.declared.MonthEnd.{MonthEnd}
use Rattle.child.specs.declared.courses.Course as code
use Rattle.child.specs.declared.months.Run.{Run}
use Rattle.child.specs.Answers.{BirthAnswer, MonthAnswer, Course, RunAnswer}

-- a refused birth has the all-zero state
abbrev pub birth_answer_in : Result State Refusal → BirthAnswer
birth_answer_in (Ok child) = record { refusal = 0; state = child }
birth_answer_in (Err r) = record { refusal = number_of r; state = zero_state }

-- a refused month leaves the state a that it was given, and has blood 0
abbrev pub month_answer_in : State → Result MonthEnd Refusal → MonthAnswer
month_answer_in a (Ok m) = record { refusal = 0; state = m.state; blood = m.blood }
month_answer_in a (Err r) = record { refusal = number_of r; state = a; blood = 0 }

-- a refused course has blood 0
abbrev pub course_with : State → Result ℕ Refusal → Course
course_with a (Ok blood) = record { refusal = 0; state = a; blood = blood }
course_with a (Err r) = record { refusal = number_of r; state = a; blood = 0 }

abbrev pub course_in : code.Course → Course
course_in c = course_with c.state c.blood

abbrev pub run_answer_in : Run → RunAnswer
run_answer_in r = record { refusal = number_in r.end; months = r.months; state = r.state }
