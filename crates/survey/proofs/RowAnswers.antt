-- What a row answers, by its files, by its start and by its child's course.
-- Assumes nothing.
use mathlib.Core.Path.{◌≡◌, refl, sym, ◌∙◌}
use mathlib.Core.List.{List}
use Prim.Native.Nat.{ℕ}
use Rattle.std.proofs.Common.{Result, Ok, Err}
use Rattle.numbers.proofs.Refusals.{answer_refused}
use Rattle.refusal.specs.declared.Refusal.{Refusal}
use Rattle.refusal.specs.Refusal.{number_of}
use Rattle.refusal.proofs.Numbers.{some_number}
use Rattle.site.specs.declared.Scenario.{Scenario}
use Rattle.site.proofs.FieldsWithin.{accepted_fits, accepted_places, mother_accepted}
use Rattle.exposure.proofs.ExposureWithin.{exposure_within}
use Rattle.book.proofs.RowsWithin.{rows_within}
use Rattle.files.specs.Files.{Files, files_refusal, scenario_in, table_in}
use Rattle.files.proofs.FilesPassed.{site_passed, book_passed}
use Rattle.engine.specs.Internal.{AreThoseOf}
use Rattle.engine.proofs.FilesDecoded.{read_as_lem}
use Rattle.child.specs.declared.courses.Course as code
use Rattle.child.specs.Answers.{Course}
use Rattle.child.specs.Outcomes.{course_with, course_in}
use Rattle.child.specs.Course.{course_at}
use Rattle.child.specs.Decoded.{Decoded}
use Rattle.lines.specs.declared.RowText.{RowText}
use Rattle.card.specs.declared.Card.{Card}
use Rattle.card.specs.Row.{read_kept}
use Rattle.card.specs.Values.{months_of}
use Rattle.cardsite.specs.Start.{start_of}
use Rattle.cardsite.specs.Fields.{row_scenario}
use Rattle.cardsite.specs.Running.{Running}
use Rattle.cardsite.proofs.RowLaws.{row_within}
use Rattle.cardsite.proofs.RowValues.{row_mother}
use Rattle.survey.specs.RowAnswer.{Blood, Refused, blood_in}
use Rattle.survey.specs.Survey.{course_answer, card_answer, start_answer, kept_answer}
use Rattle.survey.specs.Internal.{Ready}

-- a course
pub course_refused : (c : Course) → (c.refusal ≡ 0 → ⊥) → Refused c.refusal ≡ course_answer c
course_refused c h = sym (answer_refused (Blood c.blood) Refused c.refusal h)

pub course_runs : (c : Course) → c.refusal ≡ 0 → Blood c.blood ≡ course_answer c
course_runs c e = rw e

-- the yard's own scenario is within the limits, and that of a card that runs
pub ready_decoded : {scenario : Scenario} {table : List ℕ} → Ready scenario table → Decoded scenario table
ready_decoded {scenario} ready = record { exposure = exposure_within scenario ready.fields.fit ready.places; mother = ready.mother; row = ready.row }

pub row_decoded : (c : Card) → Running c → (scenario : Scenario) (table : List ℕ) → Ready scenario table → Decoded (row_scenario c scenario) table
row_decoded c run scenario table ready =
    record {
      exposure = row_within c run.within scenario ready.fields ready.places;
      mother = rw (row_mother c scenario ready.fields.long) ready.mother;
      row = ready.row;
    }

-- its figure is that of the course that the code runs
pub blood_is : (c : code.Course) → blood_in c.blood ≡ course_answer (course_in c)
blood_is c = by c.blood
  where
    by : (blood : Result ℕ Refusal) → blood_in blood ≡ course_answer (course_with c.state blood)
    by (Ok blood) = refl
    by (Err r) = sym (answer_refused (Blood 0) Refused (number_of r) (some_number r))

pub card-answered :
    (s : ℕ) (c : Card) (scenario : Scenario) (table : List ℕ) {row : Scenario} {age : ℕ} (course : code.Course)
    → row ≡ row_scenario c scenario → age ≡ months_of c.age → course_in course ≡ course_at s row table age
    → blood_in course.blood ≡ card_answer s scenario table c
unfolding card_answer
card-answered s c scenario table course er ea ec = blood_is course ∙ rw (ec, er, ea)

-- refused files, and accepted ones
pub files_refused : (f : Files) (s : ℕ) (kept : RowText) (r : Refusal) → number_of r ≡ files_refusal f → Refused (number_of r) ≡ kept_answer s f kept
unfolding kept_answer
files_refused f s kept r e = rw (← e) (sym (answer_refused _ Refused (number_of r) (some_number r)))

pub files_ready : (f : Files) → files_refusal f ≡ 0 → Ready (scenario_in f) (table_in f)
files_ready f passed =
    record {
      fields = accepted_fits f.site (site_passed f passed);
      places = accepted_places f.site (site_passed f passed);
      mother = mother_accepted f.site (site_passed f passed);
      row = rows_within f.book (book_passed f passed);
    }

module _ {f : Files} {scenario : Scenario} {table : List ℕ} (those : AreThoseOf f scenario table) where
  pub files_read_ready : Ready scenario table
  files_read_ready = rw (those.scenario_is, those.table_is) (files_ready f those.accepted)

  pub files_answered : (s : ℕ) (kept : RowText) → start_answer s scenario table (start_of (read_kept kept)) ≡ kept_answer s f kept
  unfolding kept_answer
  files_answered s kept = read_as_lem those (λ own l. start_answer s own l (start_of (read_kept kept))) ∙ rw those.accepted
