-- For the contracts between the functions: the courses of a group's rows, month by month. No open call's contract needs it.
-- Assumes nothing.
use Rattle.std.specs.Prelude.{◌≡◌, List, [], ℕ, ◌+◌, ◌≤◌, ◌<◌, min, get_or, Ok}
use Rattle.site.specs.declared.Scenario.{Scenario}
use Rattle.exposure.specs.declared.Exposure.{Exposure}
use Rattle.row.specs.declared.Row.{Row}
use Rattle.row.specs.Row.{last_month, row_of}
use Rattle.child.specs.declared.courses.Course as code
use Rattle.child.specs.Answers.{Course}
use Rattle.child.specs.Outcomes.{course_in}
use Rattle.child.specs.Month.{exposure_in, saturation_month}
use Rattle.child.specs.Course.{course_at}
use Rattle.card.specs.Values.{months_of}
use Rattle.cardsite.specs.Start.{Start}
use Rattle.cardsite.specs.Start as start
use Rattle.cardsite.specs.Fields.{row_scenario}
use Rattle.roll.specs.Words.{start_at}
use Rattle.survey.specs.RowAnswer.{RowAnswer}
use Rattle.survey.specs.RowAnswer.{Skipped, Refused}
use Rattle.survey.specs.Survey.{course_answer}

-- how many months a row is run
abbrev pub until_of : Start → ℕ
until_of (start.Runs c) = months_of c.age
until_of start.Skipped = 0
until_of (start.Refused n) = 0

-- the last month that one of n rows of a roll is run, at most 84
pub record LastMonth (roll : List ℕ) (n last : ℕ) : Type 0 where
  pub reaches : (i : ℕ) → i < n → until_of (start_at roll i) ≤ last
  pub within : last ≤ last_month

-- a row's course after m months of its group: that of its card up to AGE, where it rests
module _ (s : ℕ) (scenario : Scenario) (table : List ℕ) where
  unfoldable pub course_by : Start → ℕ → Course
  course_by (start.Runs c) m = course_at s (row_scenario c scenario) table (min m (months_of c.age))
  course_by start.Skipped m = course_at s scenario table 0
  course_by (start.Refused n) m = course_at s scenario table 0

-- what all rows share in the month that follows those done: the yard's exposure, the book's row, and the body weight that the saturation is given for
pub record GroupMonth (scenario : Scenario) (table : List ℕ) (done : ℕ) (exposure : Exposure) (row : Row) (weight24 : ℕ) : Type 0 where
  pub exposure_is : exposure ≡ exposure_in scenario (done + 1)
  pub row_is : row ≡ row_of table (done + 1)
  pub weight_is : weight24 ≡ (row_of table saturation_month).body_weight

-- what stands past the end of a list of courses
abbrev pub no_course : code.Course
no_course = record { state = record { month = 0; lead = []; ledgers = [] }; blood = Ok 0 }

-- the courses of the first n rows of a roll, each at its end
pub record CoursesRun (s : ℕ) (scenario : Scenario) (table roll : List ℕ) (n : ℕ) (courses : List code.Course) : Type 0 where
  pub each : (i : ℕ) → i < n → course_in (get_or courses i no_course) ≡ course_by s scenario table (start_at roll i) (until_of (start_at roll i))

-- what a row answers whose course is at its end
abbrev pub end_answer : Start → Course → RowAnswer
end_answer (start.Runs c) course = course_answer course
end_answer start.Skipped course = Skipped
end_answer (start.Refused n) course = Refused n
