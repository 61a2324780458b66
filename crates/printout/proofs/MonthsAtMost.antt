-- A run does at most 84 months.
-- Assumes nothing.
use Prim.Native.Nat.{ℕ, zero, suc, ◌≤◌}
use native.Mathlib.Omega.{arith}
use lib.ListN.{length}
use Rattle.numbers.proofs.Refusals.{answer_both}
use Rattle.row.specs.Row.{last_month}
use Rattle.kinetics.specs.declared.State.{State}
use Rattle.child.specs.Answers.{MonthAnswer}
use Rattle.files.specs.Files.{Files}
use Rattle.engine.specs.Birth.{birth_of}
use Rattle.engine.specs.Month.{month_of}
use Rattle.child.specs.Months.{MonthsRun, and_then, months_by}
use Rattle.engine.specs.Run.{start_refusal, run_of}

-- a month before others adds one figure at most
one_more : (m : MonthAnswer) (x : MonthsRun) (n : ℕ) → length x.figures ≤ n → length (and_then m x).figures ≤ suc n
one_more m x n h = answer_both _ _ (λ (r : MonthsRun). length r.figures ≤ suc n) (omega arith) (λ k. omega arith) m.refusal

-- n months have n figures at most
months_at_most : (call : State → MonthAnswer) (n : ℕ) (a : State) → length (months_by call n a).figures ≤ n
unfolding months_by
months_at_most call zero a = omega arith
months_at_most call (suc n) a = one_more (call a) (months_by call n (call a).state) n (months_at_most call n (call a).state)

-- nor has a run more; if it is refused before its first month, it has none
pub run_at_most : (s : ℕ) (f : Files) (places : ℕ) → length (run_of s f places).figures ≤ last_month
unfolding run_of
run_at_most s f places =
    answer_both _ _ (λ (r : MonthsRun). length r.figures ≤ last_month)
    (months_at_most (λ a. month_of s a f) last_month (birth_of f).state) (λ n. omega arith) (start_refusal f places)
