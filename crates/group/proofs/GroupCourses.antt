-- The courses of a group's rows, month by month: a row's course goes on up to its AGE, where it rests.
-- Assumes nothing.
use Prim.Native.Nat.{ℕ, suc, ◌+◌, ◌≤◌, ◌<◌, min}
use mathlib.Core.Path.{◌≡◌, refl, sym, ap, ◌∙◌}
use mathlib.Core.List.{List, ◌++◌, map}
use native.Mathlib.Omega.{arith}
use lib.ListN.{replicate, get_or, set, take, get_or-replicate, get_or-map, get_or-append, length-replicate, length-map, length-take, length-append}
use Rattle.std.proofs.Common.{Result, Ok, Err}
use Rattle.std.proofs.lemmas.List.{map-set, get_or-take}
use Rattle.numbers.proofs.Turns.{AllBy, Turned, turn_start, turn_next, turn_end}
use Rattle.refusal.specs.declared.Refusal.{Refusal}
use Rattle.site.specs.declared.Scenario.{Scenario}
use Rattle.exposure.specs.declared.Exposure.{Exposure}
use Rattle.exposure.specs.Limits.{ExposureLimits}
use Rattle.row.specs.declared.Row.{Row}
use Rattle.row.specs.Row.{last_month}
use Rattle.uptake.specs.Age.{age_of}
use Rattle.uptake.proofs.UptakeBounds.{age_law}
use Rattle.child.specs.declared.courses.Course as code
use Rattle.child.specs.Answers.{Course}
use Rattle.child.specs.Outcomes.{course_with, course_in}
use Rattle.child.specs.Month.{exposure_in}
use Rattle.child.specs.Course.{next_month, course_at}
use Rattle.child.specs.Internal.{MonthGiven}
use Rattle.child.proofs.MonthAnswers.{limits-at}
use Rattle.child.proofs.CourseMonths.{course_born_same, course_month_given}
use Rattle.card.specs.declared.Card.{Card}
use Rattle.card.specs.Values.{months_of}
use Rattle.cardsite.specs.Start.{Start}
use Rattle.cardsite.specs.Start as start
use Rattle.cardsite.specs.Fields.{row_scenario}
use Rattle.cardsite.specs.RowExposure.{row_exposure}
use Rattle.cardsite.specs.Running.{Running}
use Rattle.cardsite.proofs.RowValues.{row_mother, row_exposures}
use Rattle.roll.specs.Words.{rows_a_group, start_at}
use Rattle.survey.specs.Internal.{Ready}
use Rattle.survey.proofs.RowAnswers.{row_decoded}
use Rattle.group.specs.Internal.{until_of, LastMonth, course_by, GroupMonth, no_course, CoursesRun}

-- the child at the end of a course
state_is : (c : code.Course) → (course_in c).state ≡ c.state
state_is c = by c.blood
  where
    by : (blood : Result ℕ Refusal) → (course_with c.state blood).state ≡ c.state
    by (Ok blood) = refl
    by (Err r) = refl

module _ {scenario : Scenario} {table : List ℕ} {done : ℕ} {exposure : Exposure} {row : Row} {weight24 : ℕ}
    (ready : Ready scenario table) (shared : GroupMonth scenario table done exposure row weight24) (c : Card) (run : Running c) where
  -- a row's own exposure of the month
  own_exposure : done < last_month → row_exposure c exposure ≡ exposure_in (row_scenario c scenario) (done + 1)
  own_exposure h =
      ap (row_exposure c) shared.exposure_is ∙ sym (row_exposures c scenario ready.fields.long (age_of (done + 1)) (age_law (done + 1) (omega arith)))

  pub own_limits : done < last_month → ExposureLimits (row_exposure c exposure)
  own_limits h = rw (own_exposure h) (limits-at (row_decoded c run scenario table ready) (done + 1) (omega arith)).exposed

  module _ (s : ℕ) (course : code.Course) (here : course_in course ≡ course_by s scenario table (start.Runs c) done) where
    -- past its AGE it rests
    pub card_rests : months_of c.age ≤ done → course_in course ≡ course_by s scenario table (start.Runs c) (done + 1)
    unfolding course_by
    card_rests h =
        let same : min done (months_of c.age) ≡ min (done + 1) (months_of c.age) = omega arith in
        here ∙ ap (course_at s (row_scenario c scenario) table) same

    -- else it goes on
    module _ (h : done < months_of c.age) where
      course_is : course_in course ≡ course_at s (row_scenario c scenario) table done
      unfolding course_by
      course_is =
          let month : min done (months_of c.age) ≡ done = omega arith in
          here ∙ ap (course_at s (row_scenario c scenario) table) month

      pub card_month_given : {own : Exposure} → own ≡ row_exposure c exposure → (course_in course).refusal ≡ 0 → MonthGiven (row_scenario c scenario) table course.state own row weight24
      card_month_given eo e =
          let state : (course_at s (row_scenario c scenario) table done).state ≡ course.state = sym (ap (λ (x : Course). x.state) course_is) ∙ state_is course in
          rw state at
          (course_month_given s (row_scenario c scenario) table done (sym (ap (λ (x : Course). x.refusal) course_is) ∙ e)
          (eo ∙ own_exposure (omega (arith, run.last))) shared.row_is shared.weight_is)

      pub card_goes_on : (next : code.Course) → course_in next ≡ next_month s (row_scenario c scenario) table (course_in course) → course_in next ≡ course_by s scenario table (start.Runs c) (done + 1)
      unfolding course_by course_at
      card_goes_on next e =
          let month : min (done + 1) (months_of c.age) ≡ suc done = omega arith in
          e ∙ rw (month, course_is)

-- THE LOOP over the months: row i after m of them
abbrev pub courses_at : ℕ → Scenario → List ℕ → List ℕ → ℕ → ℕ → Course
courses_at s scenario table roll m i = course_by s scenario table (start_at roll i) m

module _ (s : ℕ) (scenario : Scenario) (table : List ℕ) (ready : Ready scenario table) where
  -- before the first month every row has the course at birth: birth depends on the mother alone
  born_by : (x : Start) → course_at s scenario table 0 ≡ course_by s scenario table x 0
  unfolding course_by
  born_by (start.Runs c) =
      let none : min 0 (months_of c.age) ≡ 0 = omega arith in
      rw none (sym (course_born_same s (row_scenario c scenario) scenario table (row_mother c scenario ready.fields.long)))
  born_by start.Skipped = refl
  born_by (start.Refused n) = refl

  -- a course at or past its row's last month
  ended_by_lem : (x : Start) (m : ℕ) → until_of x ≤ m → course_by s scenario table x m ≡ course_by s scenario table x (until_of x)
  unfolding course_by
  ended_by_lem (start.Runs c) m h =
      let same : min m (months_of c.age) ≡ min (months_of c.age) (months_of c.age) = omega arith in
      ap (course_at s (row_scenario c scenario) table) same
  ended_by_lem start.Skipped m h = refl
  ended_by_lem (start.Refused n) m h = refl

  module _ (roll : List ℕ) (n : ℕ) where
    pub courses_born : n ≤ rows_a_group → (birth : code.Course) → course_in birth ≡ course_at s scenario table 0
        → AllBy (course_in no_course) n (courses_at s scenario table roll 0) (map course_in (replicate rows_a_group birth))
    courses_born few birth e =
        record {
          room = rw (length-map (replicate rows_a_group birth) course_in, length-replicate rows_a_group birth) few;
          each = λ i h.
              get_or-map course_in (replicate rows_a_group birth) i no_course ∙ ap course_in (get_or-replicate rows_a_group i birth no_course (omega arith)) ∙ e ∙ born_by (start_at roll i);
        }

    pub courses_ended : {last m : ℕ} → LastMonth roll n last → last ≤ m → (courses : List code.Course) → AllBy (course_in no_course) n (courses_at s scenario table roll m) (map course_in courses)
        → CoursesRun s scenario table roll n courses
    courses_ended {last} {m} l h courses all =
        record { each = λ i g. sym (get_or-map course_in courses i no_course) ∙ all.each i g ∙ ended_by_lem (start_at roll i) m (omega (arith, l.reaches i g)) }

-- the row's course a month later, by what the code answers of it
module _ (s : ℕ) (scenario : Scenario) (table roll : List ℕ) (n done : ℕ) where
  pub row_goes_on : (courses : List code.Course) (i : ℕ) (next : code.Course) {x : Start} → x ≡ start_at roll i → i < n
      → (course_in (get_or courses i no_course) ≡ course_by s scenario table x done → course_in next ≡ course_by s scenario table x (done + 1))
      → Turned (course_in no_course) n (courses_at s scenario table roll done) (courses_at s scenario table roll (done + 1)) (map course_in courses) i
      → Turned (course_in no_course) n (courses_at s scenario table roll done) (courses_at s scenario table roll (done + 1)) (map course_in (set courses i next)) (i + 1)
  row_goes_on courses i next {x} ex h goes turned =
      rw (map-set course_in courses i next)
      (turn_next _ _ _ _ _ _ _ h
      (λ here. goes (sym (get_or-map course_in courses i no_course) ∙ here ∙ ap (λ y. course_by s scenario table y done) (sym ex)) ∙ ap (λ y. course_by s scenario table y (done + 1)) ex) turned)

-- the rows that there are are a part of the list of courses: as it is lent, and when it is back
module _ {n : ℕ} {f g : ℕ → Course} where
  pub part_lent : (courses : List code.Course) → AllBy (course_in no_course) n f (map course_in courses) → Turned (course_in no_course) n f g (map course_in (take n courses)) 0
  part_lent courses all =
      turn_start _ _ f g (map course_in (take n courses))
      (record {
        room = omega (arith, length-map (take n courses) course_in, length-take n courses, length-map courses course_in, all.room);
        each = λ i h.
            get_or-map course_in (take n courses) i no_course ∙ ap course_in (get_or-take n courses i no_course h) ∙ sym (get_or-map course_in courses i no_course) ∙ all.each i h;
      })

  pub part_back : {i : ℕ} → n ≤ i → (part rest : List code.Course) → Turned (course_in no_course) n f g (map course_in part) i → AllBy (course_in no_course) n g (map course_in (part ++ rest))
  part_back {i} h part rest turned =
      let all = turn_end _ _ f g (map course_in part) i h turned in
      record {
        room = omega (arith, length-map (part ++ rest) course_in, length-append part rest, length-map part course_in, all.room);
        each = λ j k.
            get_or-map course_in (part ++ rest) j no_course ∙ ap course_in (get_or-append part rest no_course j (omega (arith, length-map part course_in, all.room)))
            ∙ sym (get_or-map course_in part j no_course) ∙ all.each j k;
      }
