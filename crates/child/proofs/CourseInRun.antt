-- A child's course is a run, month by month: the course adds its months at the end, the run at the front.
-- Assumes nothing.
use Prim.Native.Nat.{ℕ, zero, suc, ◌<◌}
use mathlib.Core.Path.{◌≡◌, refl, sym, ap, ◌∙◌}
use mathlib.Core.List.{List}
use native.Mathlib.Omega.{arith}
use native.Mathlib.Numerals.{add-one}
use Rattle.numbers.specs.Choice.{answer_by}
use Rattle.site.specs.declared.Scenario.{Scenario}
use Rattle.kinetics.specs.declared.State.{State}
use Rattle.state.specs.State.{zero_state}
use Rattle.child.specs.Answers.{MonthAnswer, Course}
use Rattle.child.specs.Birth.{newborn, newborn_refusal, refused_birth}
use Rattle.child.specs.Month.{child_month}
use Rattle.child.specs.Months.{MonthsRun, no_month, month_then, and_then, months_by}
use Rattle.child.specs.Course.{from_birth, from_month, next_month, course_at}
use Rattle.child.proofs.RunLoop.{then_refused, then_accepted}
use Rattle.child.specs.Laws.{run_from_birth, AsInRun, CourseLaw}

module _ (call : State → MonthAnswer) where
  -- a month more, by any call; and m months more, of which the first is made first
  abbrev next : Course → Course
  next c = answer_by c.refusal (from_month (call c.state)) (λ r. c)

  onward : ℕ → Course → Course
  onward zero c = c
  onward (suc m) c = onward m (next c)

  onward_last : (m : ℕ) (c : Course) → onward m (next c) ≡ next (onward m c)
  unfolding onward
  onward_last zero c = refl
  onward_last (suc m) c = onward_last m (next c)

  -- a refused course stays
  onward_refused : (r : ℕ) (c : Course) → c.refusal ≡ suc r → (m : ℕ) → onward m c ≡ c
  unfolding onward
  onward_refused r c e zero = refl
  onward_refused r c e (suc m) = ap (onward m) (stays c.refusal e) ∙ onward_refused r c e m
    where
      stays : (q : ℕ) → q ≡ suc r → answer_by q (from_month (call c.state)) (λ p. c) ≡ c
      stays q eq = rw eq

  -- no month is done
  none_done : (r : ℕ) (a : State) (c : Course) → c.refusal ≡ suc r → (m : ℕ) → AsInRun (no_month (suc r) a) m (onward m c)
  none_done r a c e m =
      let z : (onward m c).refusal ≡ suc r = ap (λ (x : Course). x.refusal) (onward_refused r c e m) ∙ e in
      record {
        passes = λ h. absurd (omega arith);
        figure = λ h. absurd (omega arith);
        ends = λ h. z;
        refused = λ h e₀. omega arith;
      }

  -- the months of a run after its first, answered x
  later : (x : MonthAnswer) (rest : MonthsRun) (m : ℕ) (c : Course) → AsInRun rest m c → AsInRun (month_then x rest) (suc m) c
  later x rest m c k =
      record {
        passes = λ h. k.passes (omega arith);
        figure = λ h. k.figure (omega arith);
        ends = λ h. k.ends (omega arith);
        refused = λ h. k.refused (omega arith);
      }

  -- the first month, answered x
  first : (x : MonthAnswer) (rest : MonthsRun) → x.refusal ≡ 0 → AsInRun (month_then x rest) 0 (from_month x)
  first x rest z =
      record {
        passes = λ h. z;
        figure = λ h. refl;
        ends = λ h. absurd (omega arith);
        refused = λ h. absurd (omega arith);
      }

  -- a run that is the same
  same_run : {r q : MonthsRun} {m : ℕ} {c : Course} → r ≡ q → AsInRun q m c → AsInRun r m c
  same_run e k = rw e k

  -- n months from a state, by the number of the first's answer x
  months_by_lem : (n : ℕ) → ((b : State) (m : ℕ) → m < n → AsInRun (months_by call n b) m (onward m (from_month (call b)))) → (x : MonthAnswer) (r : ℕ) → x.refusal ≡ r
      → (m : ℕ) → m < suc n → AsInRun (and_then x (months_by call n x.state)) m (onward m (from_month x))
  unfolding onward
  months_by_lem n rest x zero e zero h = same_run (then_accepted x _ e) (first x (months_by call n x.state) e)
  months_by_lem n rest x zero e (suc m) h =
      let goes_on : next (from_month x) ≡ from_month (call x.state) = rw e in
      same_run (then_accepted x _ e)
      (later x (months_by call n x.state) m _ (rw goes_on (rest x.state m (omega arith))))
  months_by_lem n rest x (suc r) e m h =
      same_run (then_refused x _ (λ z. absurd (omega arith)) ∙ ap (λ q. no_month q x.state) e) (none_done r x.state (from_month x) e m)

  months_from : (n : ℕ) (a : State) (m : ℕ) → m < n → AsInRun (months_by call n a) m (onward m (from_month (call a)))
  unfolding months_by
  months_from zero a m h = absurd (omega arith)
  months_from (suc n) a m h = months_by_lem n (months_from n) (call a) (call a).refusal refl m h

module _ (s : ℕ) (scenario : Scenario) (table : List ℕ) where
  abbrev call : State → MonthAnswer
  call a = child_month s a scenario table

  -- the course, with its months at the front
  course_onward : (m : ℕ) → course_at s scenario table m ≡ onward call m (course_at s scenario table 0)
  unfolding course_at next_month onward
  course_onward zero = refl
  course_onward (suc m) = ap (next call) (course_onward m) ∙ sym (onward_last call m (course_at s scenario table 0))

  -- by the number of birth
  from_birth_lem : (r : ℕ) → newborn_refusal scenario table ≡ r → (n m : ℕ) → m < n
      → AsInRun (run_from_birth s scenario table n) m (onward call (suc m) (course_at s scenario table 0))
  unfolding course_at onward
  from_birth_lem zero e n m h = rw e (months_from call n (newborn scenario table) m h)
  from_birth_lem (suc r) e n m h = rw e (none_done call r zero_state (from_birth (refused_birth (suc r))) refl m)

pub course_law : CourseLaw
course_law s scenario table n m h =
    rw (add-one, course_onward s scenario table (suc m)) (from_birth_lem s scenario table (newborn_refusal scenario table) refl n m h)
