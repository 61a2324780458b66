-- The lines of a printout: line k, and that the lines are the whole.
-- Assumes nothing.
use mathlib.Core.Path.{◌≡◌, refl, sym, ap, ap₂, ◌∙◌}
use Prim.Native.Nat.{ℕ, zero, suc, ◌+◌, ◌-◌, ◌≤◌, ◌<◌}
use mathlib.Core.List.{List, [], ◌∷◌, ◌++◌, append-nil, append_assoc}
use native.Mathlib.Nat.{add-zero, zero-add}
use native.Mathlib.Omega.{arith}
use borrow.Author.Tests.{lt-ltb, le-ltb, eq-eqb, ne_eqb}
use lib.ListN.{length, get_or, drop, replicate, get_or-append}
use Rattle.numbers.proofs.Every.{get_or-tab}
use Rattle.row.specs.Row.{last_month}
use Rattle.steps.specs.Steps.{steps_a_day}
use Rattle.child.specs.Months.{MonthsRun}
use Rattle.files.specs.Files.{Files}
use Rattle.engine.specs.Run.{run_of}
use Rattle.routes.specs.declared.RouteSums.{RouteSums}
use Rattle.routes.specs.Sums.{month_sums, sums_refusal, kept_sums, monthly_sums}
use Rattle.routes.proofs.RunSums.{done_law}
use Rattle.printout.specs.Kept.{Prepared}
use Rattle.printout.specs.Printout.{month_line, month_lines, last_line, printout_of}
use Rattle.printout.specs.Lines.{kept_of, prepared_of, sums_at, line_at, lines_from}
use Rattle.printout.specs.Laws.{LinesLaw}
use Rattle.printout.proofs.MonthsAtMost.{run_at_most}

-- line k by its place
module _ (p : Prepared) (k : ℕ) where
  -- a month that is done
  line_done : k < p.months → line_at p k ≡ month_line (suc k) (get_or p.blood k 0) (sums_at p.sums k)
  unfolding line_at
  line_done h = rw (lt-ltb k p.months h)

  -- past the months: the last line of a refused run, or none
  line_last : k ≡ p.months → line_at p k ≡ last_line p.refusal p.months
  unfolding line_at
  line_last h = rw (le-ltb k p.months (omega arith), eq-eqb k p.months h)

  -- past the last line
  pub line_past : p.months < k → line_at p k ≡ []
  unfolding line_at
  line_past h = rw (le-ltb k p.months (omega arith), ne_eqb k p.months (λ e. omega arith))

-- no line is left past the last
lines_past : (p : Prepared) (k n : ℕ) → p.months < k → lines_from (line_at p) k n ≡ []
unfolding lines_from
lines_past p k zero h = refl
lines_past p k (suc n) h = ap₂ ◌++◌ (line_past p k h) (lines_past p (suc k) n (omega arith))

-- the lines of the months done, and those after them
lines_months : (line : ℕ → List ℕ) (sums : ℕ → RouteSums) (bs : List ℕ) (m j : ℕ)
    → ((k : ℕ) → k < length bs → line (m + k) ≡ month_line (suc (m + k)) (get_or bs k 0) (sums (suc (m + k))))
    → lines_from line m (length bs + j) ≡ month_lines sums m bs ++ lines_from line (m + length bs) j
unfolding lines_from month_lines
lines_months line sums [] m j h = let none : 0 + j ≡ j = omega arith in rw (none, add-zero)
lines_months line sums (b ∷ bs) m j h =
    let more : suc (length bs) + j ≡ suc (length bs + j) = omega arith in
    let far : m + suc (length bs) ≡ suc m + length bs = omega arith in
    let first : line m ≡ month_line (suc m) b (sums (suc m)) = rw add-zero at (h 0 (omega arith)) in
    let rest = lines_months line sums bs (suc m) j (λ k l. let e : suc m + k ≡ m + suc k = omega arith in rw e (h (suc k) (omega arith))) in
    rw (more, far) (ap₂ ◌++◌ first rest ∙ sym (append_assoc (month_line (suc m) b (sums (suc m))) (month_lines sums (suc m) bs) (lines_from line (suc m + length bs) j)))

-- the sums kept at the place of a month that has them are that month's
sums_kept : (f : Files) (k : ℕ) → k < last_month → sums_refusal f (suc k) ≡ 0 → sums_at (monthly_sums f) k ≡ month_sums f (suc k)
unfolding sums_at monthly_sums kept_sums
sums_kept f k l z = rw (get_or-tab last_month (λ i. (kept_sums f (suc i)).passive) k l, get_or-tab last_month (λ i. (kept_sums f (suc i)).active) k l, z) refl

-- a month's line of what is kept of a run
line_kept : (f : Files) (r : MonthsRun) (k : ℕ) → k < length r.figures → k < last_month → sums_refusal f (suc k) ≡ 0
    → line_at (kept_of r (monthly_sums f)) k ≡ month_line (suc k) (get_or r.figures k 0) (month_sums f (suc k))
line_kept f r k h l z =
    line_done (kept_of r (monthly_sums f)) k h
    ∙ ap₂ (month_line (suc k)) (get_or-append r.figures (drop (length r.figures) (replicate last_month 0)) 0 k h) (sums_kept f k l z)

-- the lines of a run of at most 84 months, each of which has its sums, are what is printed of it
lines_whole : (f : Files) (r : MonthsRun) → length r.figures ≤ last_month → ((k : ℕ) → k < length r.figures → sums_refusal f (suc k) ≡ 0)
    → printout_of (month_sums f) r ≡ lines_from (line_at (kept_of r (monthly_sums f))) 0 (suc last_month)
unfolding printout_of lines_from
lines_whole f r h passed =
    let p = kept_of r (monthly_sums f) in
    let done = length r.figures in
    let left = last_month - done in
    let split : done + suc left ≡ suc last_month = omega arith in
    let months : lines_from (line_at p) 0 (done + suc left) ≡ month_lines (month_sums f) 0 r.figures ++ lines_from (line_at p) done (suc left) =
    rw zero-add at (lines_months (line_at p) (month_sums f) r.figures 0 (suc left) (λ k l. rw zero-add (line_kept f r k l (omega arith) (passed k l)))) in
    let end : lines_from (line_at p) done (suc left) ≡ last_line r.refusal done =
    ap₂ ◌++◌ (line_last p done refl) (lines_past p (suc done) left (omega arith)) ∙ append-nil (last_line r.refusal done) in
    ap (λ (l : List ℕ). month_lines (month_sums f) 0 r.figures ++ l) (sym end) ∙ sym months ∙ ap (lines_from (line_at p) 0) split

pub lines_law : LinesLaw
unfolding prepared_of
lines_law f = lines_whole f (run_of steps_a_day f last_month) (run_at_most steps_a_day f last_month) (done_law steps_a_day f last_month)
