-- What birth, the month call and the run answer, in the order of their refusals.
-- Assumes nothing.
use mathlib.Core.Path.{◌≡◌, refl, sym, ap, ◌∙◌}
use mathlib.Core.List.{List}
use Prim.Native.Nat.{ℕ, zero, suc}
use lib.ListN.{length}
use borrow.Author.Tests.{eq-eqb, ne_eqb}
use Rattle.std.specs.Prelude.{Err}
use Rattle.numbers.specs.Choice.{unless}
use Rattle.numbers.proofs.Refusals.{or_else_first, or_else-last, answer_refused}
use Rattle.refusal.specs.declared.Refusal.{Refusal}
use Rattle.refusal.specs.Refusal.{number_of}
use Rattle.refusal.proofs.Numbers.{some_number}
use Rattle.site.specs.declared.Scenario.{Scenario}
use Rattle.row.specs.Row.{last_month, row_of}
use Rattle.kinetics.specs.declared.State.{State}
use Rattle.state.specs.State.{zero_state}
use Rattle.child.specs.Answers.{BirthAnswer, RunAnswer}
use Rattle.child.specs.Birth.{newborn, newborn_refusal, refused_birth, birth_answer}
use Rattle.child.specs.Month.{month_after, refused_month, month_answer, child_refusal, month_last, child_month}
use Rattle.child.specs.Months.{MonthsRun, no_month, months_by, run_answer, run_list}
use Rattle.child.specs.Internal.{child_run}
use Rattle.child.proofs.MonthAnswers.{refused_answer, refused_birth_lem, birth_answer_refusal}
use Rattle.child.proofs.RunLoop.{Done, months_agree}
use Rattle.files.specs.Files.{Files, length_refusal, before_book_refusal, files_refusal, scenario_in, table_in}
use Rattle.files.proofs.ReadAnswers.{first_refused}
use Rattle.engine.specs.Birth.{birth_refusal, birth_of}
use Rattle.engine.specs.Month.{month_refusal, month_of}
use Rattle.engine.specs.Run.{start_refusal, run_of}
use Rattle.engine.specs.Internal.{AreThoseOf, started_in}
use Rattle.engine.proofs.FilesDecoded.{read_as_lem}

-- a month call of files that pass
pub month_passed : (s : ℕ) (a : State) (f : Files) → files_refusal f ≡ 0 → child_month s a (scenario_in f) (table_in f) ≡ month_of s a f
unfolding month_of month_refusal child_month
month_passed s a f z =
    rw z
    (ap (λ (n : ℕ). month_answer n a (month_last s a (scenario_in f) (table_in f)) (row_of (table_in f) (month_after a)))
    (sym (or_else-last (child_refusal s a (scenario_in f) (table_in f)))))

-- the calls of refused files, and of accepted ones
module _ (f : Files) where
  pub birth_files_refused : (r : Refusal) → number_of r ≡ files_refusal f → refused_birth (number_of r) ≡ birth_of f
  unfolding birth_of birth_refusal
  birth_files_refused r e = rw (← e, or_else_first (number_of r) _ (some_number r)) (refused_birth_lem (number_of r) _ (some_number r))

  pub month_files_refused : (s : ℕ) (a : State) (r : Refusal) → number_of r ≡ files_refusal f → refused_month (number_of r) a ≡ month_of s a f
  unfolding month_of month_refusal
  month_files_refused s a r e = rw (← e, or_else_first (number_of r) _ (some_number r)) (refused_answer (number_of r) a _ (some_number r))

module _ {f : Files} {scenario : Scenario} {table : List ℕ} (those : AreThoseOf f scenario table) where
  pub birth_files_read : birth_answer (newborn_refusal scenario table) (newborn scenario table) ≡ birth_of f
  unfolding birth_of birth_refusal
  birth_files_read =
      read_as_lem those (λ own l. birth_answer (newborn_refusal own l) (newborn own l))
      ∙ rw those.accepted (ap (λ (n : ℕ). birth_answer n (newborn (scenario_in f) (table_in f))) (sym (or_else-last (newborn_refusal (scenario_in f) (table_in f)))))

  pub month_files_read : (s : ℕ) (a : State) → child_month s a scenario table ≡ month_of s a f
  month_files_read s a = read_as_lem those (child_month s a) ∙ month_passed s a f those.accepted

-- birth is the start of a run into a list of 84 places: files of a wrong length are refused with 1 in any case
length_first : (f : Files) (r : ℕ) → length_refusal f ≡ suc r → birth_refusal f ≡ suc r
unfolding birth_refusal files_refusal before_book_refusal
length_first f r e = rw e

pub birth_is_start : (f : Files) → start_refusal f last_month ≡ birth_refusal f
unfolding start_refusal unless
birth_is_start f = by_length (length_refusal f) refl
  where
    by_length : (r : ℕ) → length_refusal f ≡ r → start_refusal f last_month ≡ birth_refusal f
    by_length zero e = rw e (or_else-last (birth_refusal f))
    by_length (suc r) e = rw (e, length_first f r e)

-- a run that does not start: what it answers, and its list as it was
pub run_refused : (s : ℕ) (f : Files) (l : List ℕ) (r : Refusal) → number_of r ≡ start_refusal f (length l) → Done (run_of s f (length l)) l (started_in (Err r)) l
unfolding run_of
run_refused s f l r e =
    let ran : run_of s f (length l) ≡ no_month (number_of r) zero_state = rw (← e) (answer_refused _ _ (number_of r) (some_number r)) in
    (ap run_answer (sym ran), ap (λ (x : MonthsRun). run_list x l) (sym ran))

-- why a run does not start: a length, the list, the files, birth
module _ (f : Files) (places : ℕ) where
  pub lengths_refuse : (r : Refusal) → number_of r ≡ length_refusal f → number_of r ≡ start_refusal f places
  unfolding start_refusal
  lengths_refuse r e = first_refused r _ _ e

  module _ (lengths : 0 ≡ length_refusal f) where
    pub list_refuses : (places ≡ last_month → ⊥) → 2 ≡ start_refusal f places
    unfolding start_refusal unless
    list_refuses h = rw (← lengths, ne_eqb places last_month h)

    module _ (months : places ≡ last_month) where
      pub start_by_birth : start_refusal f places ≡ birth_refusal f
      unfolding start_refusal unless
      start_by_birth = rw (← lengths, eq-eqb places last_month months) (or_else-last (birth_refusal f))

      pub files_refuse : (r : Refusal) → number_of r ≡ files_refusal f → number_of r ≡ start_refusal f places
      unfolding birth_refusal
      files_refuse r e = first_refused r _ _ e ∙ sym start_by_birth

-- the number that birth answers
pub birth_number : (f : Files) {b : BirthAnswer} → b ≡ birth_of f → b.refusal ≡ birth_refusal f
unfolding birth_of
birth_number f e = ap (λ (x : BirthAnswer). x.refusal) e ∙ birth_answer_refusal (birth_refusal f) _

-- a run that starts: its months are those of the definition
module _ {f : Files} {scenario : Scenario} {table : List ℕ} (those : AreThoseOf f scenario table) (s : ℕ) (l : List ℕ) where
  pub run_months : 0 ≡ start_refusal f (length l) → {child : State} → ◌≡◌ {A = BirthAnswer} (record { refusal = 0; state = child }) (birth_of f)
      → {y : RunAnswer} {after : List ℕ} → Done (child_run s child scenario table) l y after → Done (run_of s f (length l)) l y after
  unfolding run_of child_run
  run_months start {child} born done =
      let months_are : months_by (λ a. child_month s a scenario table) last_month child ≡ months_by (λ a. month_of s a f) last_month (birth_of f).state =
      ap (months_by (λ a. child_month s a scenario table) last_month) (ap (λ (b : BirthAnswer). b.state) born)
      ∙ months_agree (λ a. child_month s a scenario table) (λ a. month_of s a f) (month_files_read those s) last_month (birth_of f).state
      in
      rw (← start, ← months_are) done
