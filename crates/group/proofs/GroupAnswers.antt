-- What a group answers: each row as it answers alone.
-- Assumes nothing.
use Prim.Native.Nat.{ℕ, ◌+◌, ◌≤◌, ◌<◌, min}
use mathlib.Core.Path.{◌≡◌, refl, sym, ap, ap₂, ◌∙◌}
use mathlib.Core.List.{List, [], ◌∷◌, ◌++◌, map}
use native.Mathlib.Omega.{arith}
use native.Mathlib.Numerals.{add-one}
use lib.ListN.{length, get_or, set, take, replicate, length-take}
use Rattle.std.proofs.Common.{Option, Result, Err}
use Rattle.std.proofs.lemmas.List.{take_more_set, map-append, take-replicate}
use Rattle.numbers.proofs.Refusals.{answer_refused}
use Rattle.site.specs.declared.Scenario.{Scenario}
use Rattle.refusal.specs.declared.Refusal.{Refusal}
use Rattle.refusal.specs.Refusal.{number_of}
use Rattle.refusal.proofs.Numbers.{some_number}
use Rattle.files.specs.Files.{Files, files_refusal, files_decodes}
use Rattle.engine.specs.Internal.{AreThoseOf}
use Rattle.engine.proofs.FilesDecoded.{read_as_lem}
use Rattle.child.specs.declared.courses.Course as code
use Rattle.child.specs.Outcomes.{course_in}
use Rattle.child.specs.Course.{course_at}
use Rattle.card.specs.Row.{read_row}
use Rattle.card.specs.Values.{months_of}
use Rattle.cardsite.specs.Start.{Start, start_of}
use Rattle.cardsite.specs.Start as start
use Rattle.cardsite.specs.Fields.{row_scenario}
use Rattle.lines.specs.Text.{lines_of}
use Rattle.roll.specs.RowsTaken.{RowsTaken}
use Rattle.roll.specs.Words.{rows_a_group, start_at, starts_in}
use Rattle.roll.specs.Enrol.{group_of}
use Rattle.roll.specs.Internal.{TextEnrolled}
use Rattle.roll.proofs.TextRows.{starts_long}
use Rattle.survey.specs.RowAnswer.{RowAnswer}
use Rattle.survey.specs.RowAnswer.{Refused}
use Rattle.survey.specs.Survey.{course_answer, card_answer, start_answer, files_then, row_answer}
use Rattle.group.specs.Group.{group_answers, group_read, roll_answers}
use Rattle.group.specs.Given.{answer_read, answers_read}
use Rattle.group.specs.Internal.{until_of, course_by, no_course, CoursesRun, end_answer}

-- one row more on the roll, and one answer more
pub rows_none : (g : Start → RowAnswer) (roll : List ℕ) → [] ≡ map g (starts_in 0 roll)
unfolding starts_in
rows_none g roll = refl

pub rows_more : (g : Start → RowAnswer) (n : ℕ) (roll : List ℕ) → map g (starts_in n roll) ++ (g (start_at roll n) ∷ []) ≡ map g (starts_in (n + 1) roll)
unfolding starts_in
rows_more g n roll = rw add-one (sym (map-append g (starts_in n roll) (start_at roll n ∷ [])))

pub read_more : (answers : List (Result (Option ℕ) ℕ)) (n : ℕ) (a : Result (Option ℕ) ℕ) → n < length answers → answers_read (n + 1) (set answers n a) ≡ answers_read n answers ++ (answer_read a ∷ [])
read_more answers n a h = ap (map answer_read) (take_more_set answers n a h) ∙ map-append answer_read (take n answers) (a ∷ [])

map_same : {A : Type 0} (g h : A → RowAnswer) → ((x : A) → g x ≡ h x) → (xs : List A) → map g xs ≡ map h xs
map_same g h same [] = refl
map_same g h same (x ∷ xs) = ap₂ ◌∷◌ (same x) (map_same g h same xs)

-- a row whose course is at its end
module _ (s : ℕ) (scenario : Scenario) (table : List ℕ) where
  end_answer_lem : (x : Start) → end_answer x (course_by s scenario table x (until_of x)) ≡ start_answer s scenario table x
  unfolding course_by card_answer
  end_answer_lem (start.Runs c) =
      let age : min (months_of c.age) (months_of c.age) ≡ months_of c.age = omega arith in
      ap (λ m. course_answer (course_at s (row_scenario c scenario) table m)) age
  end_answer_lem start.Skipped = refl
  end_answer_lem (start.Refused n) = refl

  -- the next row of a roll
  pub row_answered : (roll : List ℕ) (n : ℕ) (courses : List code.Course) → CoursesRun s scenario table roll n courses
      → (answers : List (Result (Option ℕ) ℕ)) (i : ℕ) (a : Result (Option ℕ) ℕ) {x : Start} → i < n → i < length answers → x ≡ start_at roll i → answer_read a ≡ end_answer x (course_in (get_or courses i no_course))
      → answers_read i answers ≡ map (start_answer s scenario table) (starts_in i roll) → answers_read (i + 1) (set answers i a) ≡ map (start_answer s scenario table) (starts_in (i + 1) roll)
  row_answered roll n courses run answers i a h room ex ea so_far =
      let next : answer_read a ≡ start_answer s scenario table (start_at roll i) = rw (ea, ex, run.each i h) (end_answer_lem (start_at roll i)) in
      read_more answers i a room ∙ rw (so_far, next) (rows_more (start_answer s scenario table) i roll)

-- the rows over refused files, and over accepted ones
module _ (s : ℕ) (roll : List ℕ) (count : ℕ) where
  pub roll_refused : (f : Files) (r : Refusal) → number_of r ≡ files_refusal f
      → map (λ (y : Start). Refused (number_of r)) (starts_in (min count rows_a_group) roll) ≡ roll_answers s f count roll
  unfolding roll_answers
  roll_refused f r e =
      map_same (λ (y : Start). Refused (number_of r)) (files_then s f) (λ y. rw (← e) (sym (answer_refused _ Refused (number_of r) (some_number r))))
      (starts_in (min count rows_a_group) roll)

  pub roll_answered : {f : Files} {scenario : Scenario} {table : List ℕ} → AreThoseOf f scenario table
      → map (start_answer s scenario table) (starts_in (min count rows_a_group) roll) ≡ roll_answers s f count roll
  unfolding roll_answers
  roll_answered {f} {scenario} {table} those =
      map_same (start_answer s scenario table) (files_then s f) (λ y. read_as_lem those (λ own l. start_answer s own l y) ∙ rw those.accepted)
      (starts_in (min count rows_a_group) roll)

-- where the files are refused, every row answers their number
pub all_refused : (r n m : ℕ) (roll : List ℕ) → n ≤ m → answers_read n (replicate m (Err r)) ≡ map (λ (y : Start). Refused r) (starts_in n roll)
all_refused r n m roll h =
    ap (map answer_read) (take-replicate n m (Err r) h) ∙ ap (λ k. map answer_read (replicate k (Err r))) (sym (starts_long n roll)) ∙ sym (one_number (starts_in n roll))
  where
    one_number : (xs : List Start) → map (λ (y : Start). Refused r) xs ≡ map answer_read (replicate (length xs) (Err r))
    one_number [] = refl
    one_number (x ∷ xs) = ap (Refused r ∷◌) (one_number xs)

-- the rows of a text
group_few : (text : List ℕ) → length (group_of text) ≤ rows_a_group
unfolding group_of
group_few text = omega (arith, length-take rows_a_group (lines_of text))

module _ {text roll : List ℕ} {r : RowsTaken} (taken : TextEnrolled text roll r) where
  pub taken_few : r.count ≤ rows_a_group
  taken_few = omega (arith, taken.count, group_few text)

  pub text_answered : (s : ℕ) (f : Files) → roll_answers s f r.count roll ≡ group_answers s f text
  unfolding roll_answers group_answers row_answer
  text_answered s f =
      let all : min r.count rows_a_group ≡ r.count = omega (arith, taken_few) in
      ap (λ k. map (files_then s f) (starts_in k roll)) all ∙ ap (map (files_then s f)) taken.rows ∙ map-map (group_of text)
    where
      map-map : (rows : List (List ℕ)) → map (files_then s f) (map (λ (row : List ℕ). start_of (read_row row)) rows) ≡ map (λ (row : List ℕ). files_then s f (start_of (read_row row))) rows
      map-map [] = refl
      map-map (row ∷ rows) = ap (files_then s f (start_of (read_row row)) ∷◌) (map-map rows)

  pub text_read : (f : Files) {rows decodes : ℕ} → rows ≡ r.count → decodes ≡ files_decodes f → record { rows = rows; decodes = decodes; next = r.next } ≡ group_read f text
  text_read f er ed = rw (er, taken.count, ed, taken.next)
