-- The printout line by line: what is kept of a run, and its lines.
-- Assumes nothing.
use Rattle.std.specs.Prelude.{ℕ, zero, suc, cond, List, [], ◌++◌, length, get_or, replicate, ltb, eqb}
use Rattle.files.specs.Files.{Files}
use Rattle.row.specs.Row.{last_month}
use Rattle.steps.specs.Steps.{steps_a_day}
use Rattle.child.specs.Months.{MonthsRun, run_list}
use Rattle.engine.specs.Run.{run_of}
use Rattle.routes.specs.declared.RouteSums.{RouteSums}
use Rattle.routes.specs.MonthlySums.{MonthlySums}
use Rattle.routes.specs.Sums.{monthly_sums}
use Rattle.printout.specs.Kept.{Prepared}
use Rattle.printout.specs.Printout.{month_line, last_line}

-- what is kept of a run: its refusal, the months done, 84 places that begin with their figures, and the months' sums
abbrev pub kept_of : MonthsRun → MonthlySums → Prepared
kept_of r sums = record { refusal = r.refusal; months = length r.figures; blood = run_list r (replicate last_month 0); sums = sums }

-- what is kept of a run of two files, at six steps a day
unfoldable pub prepared_of : Files → Prepared
prepared_of f = kept_of (run_of steps_a_day f last_month) (monthly_sums f)

-- the sums at place k, zeros past the last
unfoldable pub sums_at : MonthlySums → ℕ → RouteSums
sums_at sums k = record { passive = get_or sums.passive k 0; active = get_or sums.active k 0 }

-- line k, from 0: a line for each month done, then the last line, and nothing after it
unfoldable pub line_at : Prepared → ℕ → List ℕ
line_at p k =
    cond (ltb k p.months) (month_line (suc k) (get_or p.blood k 0) (sums_at p.sums k)) (cond (eqb k p.months) (last_line p.refusal p.months) [])

-- n lines from line k on, one after the other
unfoldable pub lines_from : (ℕ → List ℕ) → ℕ → ℕ → List ℕ
lines_from line k zero = []
lines_from line k (suc n) = line k ++ lines_from line (suc k) n
