-- A child's course over files that pass is the run with them, month by month.
-- Assumes nothing.
use Prim.Native.Nat.{ℕ, zero, suc, ◌+◌, ◌<◌}
use mathlib.Core.Path.{◌≡◌, refl, sym}
use Rattle.numbers.proofs.Refusals.{or_else-last}
use Rattle.row.specs.Row.{last_month}
use Rattle.child.specs.Birth.{newborn, newborn_refusal}
use Rattle.child.specs.Month.{child_month}
use Rattle.child.specs.Course.{course_at}
use Rattle.child.specs.Laws.{run_from_birth, AsInRun}
use Rattle.child.proofs.RunLoop.{months_agree}
use Rattle.child.proofs.CourseInRun.{course_law}
use Rattle.files.specs.Files.{Files, files_refusal, scenario_in, table_in}
use Rattle.engine.specs.Birth.{birth_refusal, birth_of}
use Rattle.engine.specs.Month.{month_of}
use Rattle.engine.specs.Run.{run_of}
use Rattle.engine.proofs.CallAnswers.{month_passed, birth_is_start}

module _ (s : ℕ) (f : Files) (passed : files_refusal f ≡ 0) where
  -- birth's number is the newborn child's
  born_number : birth_refusal f ≡ newborn_refusal (scenario_in f) (table_in f)
  unfolding birth_refusal
  born_number = rw passed (or_else-last (newborn_refusal (scenario_in f) (table_in f)))

  -- the run is that from birth, by birth's number
  run_from_birth_lem : (r : ℕ) → newborn_refusal (scenario_in f) (table_in f) ≡ r → run_of s f last_month ≡ run_from_birth s (scenario_in f) (table_in f) last_month
  unfolding run_of birth_of
  run_from_birth_lem zero e =
      rw (birth_is_start f, born_number, e)
      (sym (months_agree (λ a. child_month s a (scenario_in f) (table_in f)) (λ a. month_of s a f) (λ a. month_passed s a f passed) last_month (newborn (scenario_in f) (table_in f))))
  run_from_birth_lem (suc r) e = rw (birth_is_start f, born_number, e)

  pub run_course : (m : ℕ) → m < last_month → AsInRun (run_of s f last_month) m (course_at s (scenario_in f) (table_in f) (m + 1))
  run_course m h = rw (run_from_birth_lem (newborn_refusal (scenario_in f) (table_in f)) refl) (course_law s (scenario_in f) (table_in f) last_month m h)
