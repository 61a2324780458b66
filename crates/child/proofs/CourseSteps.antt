-- A course by what the code computes: at birth, a month more, and the loop over its months.
-- Assumes nothing.
use Prim.Native.Nat.{ℕ, ◌+◌, ◌≤◌, ◌<◌}
use mathlib.Core.Path.{◌≡◌, sym, ap, ◌∙◌}
use mathlib.Core.List.{List}
use native.Mathlib.Omega.{arith}
use native.Mathlib.Numerals.{add-one}
use Rattle.numbers.proofs.Refusals.{answer_refused}
use Rattle.site.specs.declared.Scenario.{Scenario}
use Rattle.exposure.specs.declared.Exposure.{Exposure}
use Rattle.row.specs.declared.Row.{Row}
use Rattle.child.specs.Answers.{BirthAnswer, MonthAnswer, Course}
use Rattle.child.specs.Birth.{newborn, newborn_refusal, birth_answer}
use Rattle.child.specs.Month.{child_month}
use Rattle.child.specs.Course.{from_birth, from_month, next_month, course_at}
use Rattle.child.specs.Internal.{MonthGiven, given_month}
use Rattle.child.proofs.MonthAnswers.{given_child}

module _ (s : ℕ) (scenario : Scenario) (table : List ℕ) where
  pub course_born : {b : BirthAnswer} → b ≡ birth_answer (newborn_refusal scenario table) (newborn scenario table) → from_birth b ≡ course_at s scenario table 0
  unfolding course_at
  course_born e = ap from_birth e

  -- a refused course stays as it is, another runs a month
  pub course_kept : (c : Course) → (c.refusal ≡ 0 → ⊥) → c ≡ next_month s scenario table c
  unfolding next_month
  course_kept c h = sym (answer_refused (from_month (child_month s c.state scenario table)) (λ r. c) c.refusal h)

  pub course_month : (c : Course) → c.refusal ≡ 0 → {m : MonthAnswer} → m ≡ child_month s c.state scenario table → from_month m ≡ next_month s scenario table c
  unfolding next_month
  course_month c z e = rw z (ap from_month e)

  -- by its exposure, its row and the body weight that the saturation is given for
  pub course_given : (c : Course) → c.refusal ≡ 0 → (e : Exposure) (row : Row) (weight24 : ℕ) → {m : MonthAnswer} → m ≡ given_month s c.state e row weight24
      → (c.refusal ≡ 0 → MonthGiven scenario table c.state e row weight24) → from_month m ≡ next_month s scenario table c
  course_given c z e row weight24 em given = course_month c z (em ∙ given_child s c.state e row weight24 (given z))

  -- the loop: the course is the one up to the months done
  pub record InCourse (until : ℕ) (here : Course) (done : ℕ) : Type 0 where
    pub reach : done ≤ until
    pub same : here ≡ course_at s scenario table done

  module _ {until : ℕ} {here : Course} {done : ℕ} (inv : InCourse until here done) where
    pub course_next : done < until → {next : Course} → next ≡ next_month s scenario table here → InCourse until next (done + 1)
    unfolding course_at
    course_next h e = record { reach = omega arith; same = rw add-one (e ∙ ap (next_month s scenario table) inv.same) }

    pub course_end : until ≤ done → here ≡ course_at s scenario table until
    course_end h =
        let all : done ≡ until = omega (arith, inv.reach) in
        rw all at inv.same
