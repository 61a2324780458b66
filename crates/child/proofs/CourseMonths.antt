-- The months of a course: an accepted course is that of a child as old as its month, and birth depends on the mother alone.
-- Assumes nothing.
use Prim.Native.Nat.{ℕ, zero, suc, ◌+◌}
use mathlib.Core.Path.{◌≡◌, refl, sym, ap, ◌∙◌}
use mathlib.Core.List.{List}
use native.Mathlib.Omega.{arith}
use native.Mathlib.Decide.{ℕ_discrete}
use Rattle.site.specs.declared.Scenario.{Scenario}
use Rattle.site.specs.Scenario.{mother_of}
use Rattle.exposure.specs.declared.Exposure.{Exposure}
use Rattle.row.specs.declared.Row.{Row}
use Rattle.row.specs.Row.{row_of}
use Rattle.kinetics.specs.declared.State.{State}
use Rattle.blood.specs.Birth.{birth_state}
use Rattle.state.specs.State.{zero_state}
use Rattle.child.specs.Answers.{Course}
use Rattle.child.specs.Birth.{newborn, newborn_refusal, birth_answer}
use Rattle.child.specs.Month.{month_after, exposure_in, saturation_month, child_refusal, child_month}
use Rattle.child.specs.Course.{from_month, next_month, course_at}
use Rattle.child.specs.Internal.{MonthGiven}
use Rattle.child.proofs.MonthAnswers.{answer_refusal}
use Rattle.child.proofs.CourseSteps.{course_kept, course_month}

-- birth is in month 0, accepted or not
pub born_number : (r : ℕ) (scenario : Scenario) (table : List ℕ) → (birth_answer r (newborn scenario table)).state.month ≡ 0
unfolding newborn birth_state zero_state
born_number zero scenario table = refl
born_number (suc r) scenario table = refl

-- birth depends on the mother alone
pub course_born_same : (s : ℕ) (a b : Scenario) (table : List ℕ) → mother_of a ≡ mother_of b → course_at s a table 0 ≡ course_at s b table 0
unfolding course_at newborn newborn_refusal
course_born_same s a b table e = rw e

module _ (s : ℕ) (scenario : Scenario) (table : List ℕ) where
  -- an accepted month is one later
  month_number : (a : State) → (child_month s a scenario table).refusal ≡ 0 → (child_month s a scenario table).state.month ≡ month_after a
  unfolding child_month
  month_number a e =
      let none : child_refusal s a scenario table ≡ 0 = sym (answer_refusal (child_refusal s a scenario table) a _ refl) ∙ e in
      rw none

  next_number : (c : Course) (m : ℕ) → (c.refusal ≡ 0 → c.state.month ≡ m) → (next_month s scenario table c).refusal ≡ 0 → (next_month s scenario table c).state.month ≡ suc m
  next_number c m number e =
      elim (ℕ_discrete c.refusal 0) [
        | yes z ↦
            let next : from_month (child_month s c.state scenario table) ≡ next_month s scenario table c = course_month s scenario table c z refl in
            let later = month_number c.state (ap (λ (x : Course). x.refusal) next ∙ e) in
            sym (ap (λ (x : Course). x.state.month) next) ∙ later ∙ omega (arith, number z)
        | no n ↦ absurd (n (ap (λ (x : Course). x.refusal) (course_kept s scenario table c n) ∙ e))
      ]

  -- the child of an accepted course is as old as the course's month
  pub course_number : (m : ℕ) → (course_at s scenario table m).refusal ≡ 0 → (course_at s scenario table m).state.month ≡ m
  unfolding course_at
  course_number zero e = born_number (newborn_refusal scenario table) scenario table
  course_number (suc m) e = next_number (course_at s scenario table m) m (course_number m) e

  -- so what the files give month m + 1 is given to the month after it
  pub course_month_given : (m : ℕ) → (course_at s scenario table m).refusal ≡ 0 → {e : Exposure} {row : Row} {weight24 : ℕ} → e ≡ exposure_in scenario (m + 1) → row ≡ row_of table (m + 1)
      → weight24 ≡ (row_of table saturation_month).body_weight → MonthGiven scenario table (course_at s scenario table m).state e row weight24
  course_month_given m passed ee er e24 =
      let number = course_number m passed in
      record { exposure_is = rw number ee; row_is = rw number er; weight_is = e24 }
