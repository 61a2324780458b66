-- A run is birth and the accepted ones of 84 month calls with its files.
-- Assumes nothing.
use Prim.Native.Nat.{ℕ, zero, suc, ◌+◌, ◌≤◌, ◌<◌}
use mathlib.Core.Path.{◌≡◌, refl, ap, ◌∙◌}
use mathlib.Core.List.{List, [], ◌∷◌, map}
use native.Mathlib.Omega.{arith}
use lib.ListN.{length, get_or, replicate}
use Rattle.numbers.proofs.Refusals.{first_of_none}
use Rattle.kinetics.specs.declared.State.{State}
use Rattle.child.specs.Answers.{MonthAnswer}
use Rattle.child.specs.Months.{MonthsRun, no_month, month_then, months_by}
use Rattle.files.specs.Files.{Files}
use Rattle.row.specs.Row.{last_month}
use Rattle.engine.specs.Birth.{birth_refusal, birth_of}
use Rattle.engine.specs.Month.{month_refusal, month_of}
use Rattle.engine.specs.Run.{start_refusals, start_refusal, run_of}
use Rattle.conservation.specs.Conservation.{Month, accepted_months}
use Rattle.conservation.specs.Laws.{RunLaws}
use Rattle.state.proofs.SoundState.{Sound}
use Rattle.conservation.proofs.StateAlone.{month_not_20, month_not_21}
use Rattle.child.proofs.MonthAnswers.{birth_answer_refusal}
use Rattle.conservation.proofs.WholeMonths.{month_refusal_lem, month_kept, month_accepted, birth_sound, birth_month}

module _ (steps : Files → ℕ) (pos : (f : Files) → 0 < steps f) (f : Files) where
  -- n calls with the files, and the months of a run that makes n
  abbrev calls : ℕ → State → List Month
  calls n a = accepted_months steps a (replicate n f)

  abbrev run : ℕ → State → MonthsRun
  run n a = months_by (λ (b : State). month_of (steps f) b f) n a

  -- if a call is refused, so are those after it: they get the same state
  refused_none : (r : ℕ) (a : State) → month_refusal (steps f) a f ≡ suc r → (n : ℕ) → calls n a ≡ []
  unfolding accepted_months
  refused_none r a e zero = refl
  refused_none r a e (suc n) = rw (month_refusal_lem (steps f) a f, e, month_kept (steps f) a f r e) (refused_none r a e n)

  -- the first call, refused and accepted
  module _ (a : State) (n : ℕ) where
    abbrev answer : MonthAnswer
    answer = month_of (steps f) a f

    run_refused : (r : ℕ) → month_refusal (steps f) a f ≡ suc r → run (suc n) a ≡ no_month (suc r) a
    unfolding months_by
    run_refused r e = rw (month_refusal_lem (steps f) a f, e, month_kept (steps f) a f r e)

    run_accepted : month_refusal (steps f) a f ≡ 0 → run (suc n) a ≡ month_then answer (run n answer.state)
    unfolding months_by
    run_accepted e = rw (month_refusal_lem (steps f) a f, e)

    calls_accepted : month_refusal (steps f) a f ≡ 0
        → calls (suc n) a ≡ record { before = a; files = f; after = answer.state } ∷ calls n answer.state
    unfolding accepted_months
    calls_accepted e = rw (month_refusal_lem (steps f) a f, e)

  -- n months of a run from a, against n calls; d is what the list of ends answers past its end
  record RunFrom (d : State) (n : ℕ) (a : State) (months : List Month) (r : MonthsRun) : Type 0 where
    figures : length r.figures ≡ length months
    state : r.state ≡ get_or (a ∷ map (λ (m : Month). m.after) months) (length months) d
    number : r.state.month ≡ a.month + length months
    whole : r.refusal ≡ 0 → length months ≡ n
    never_20 : r.refusal ≡ 20 → ⊥
    never_21 : r.refusal ≡ 21 → ⊥

  -- a month before the n that are left
  month_then_lem : (d : State) (n : ℕ) (a : State) → Sound a → a.month < last_month
      → (Sound (month_of (steps f) a f).state → (month_of (steps f) a f).state.month ≡ a.month + 1
      → RunFrom d n (month_of (steps f) a f).state (calls n (month_of (steps f) a f).state) (run n (month_of (steps f) a f).state))
      → (r : ℕ) → month_refusal (steps f) a f ≡ r → RunFrom d (suc n) a (calls (suc n) a) (run (suc n) a)
  month_then_lem d n a sound h rest zero e =
      let m = month_accepted steps pos a f e in
      let number = m.whole.number in
      let k = rest m.sound number in
      rw (run_accepted a n e, calls_accepted a n e) (
      record {
        figures = ap suc k.figures;
        state = k.state;
        number = omega (arith, k.number);
        whole = λ z. ap suc (k.whole z);
        never_20 = k.never_20;
        never_21 = k.never_21;
      })
  month_then_lem d n a sound h rest (suc r) e =
      rw (run_refused a n r e, refused_none r a e (suc n)) (
      record {
        figures = refl;
        state = refl;
        number = omega arith;
        whole = λ z. omega arith;
        never_20 = λ z. month_not_20 sound (steps f) f (e ∙ z);
        never_21 = λ z. month_not_21 sound (steps f) f h (e ∙ z);
      })

  run_from : (d : State) (n : ℕ) (a : State) → Sound a → a.month + n ≤ last_month → RunFrom d n a (calls n a) (run n a)
  unfolding months_by accepted_months
  run_from d zero a sound h =
      record { figures = refl; state = refl; number = omega arith; whole = λ e. refl; never_20 = λ e. omega arith; never_21 = λ e. omega arith }
  run_from d (suc n) a sound h =
      month_then_lem d n a sound (omega arith) (λ k e. run_from d n (month_of (steps f) a f).state k (omega arith)) (month_refusal (steps f) a f) refl

pub run_law : RunLaws
unfolding start_refusal run_of birth_of
run_law steps pos f started =
    let none = first_of_none (start_refusals f last_month) started in
    let born : (birth_of f).refusal ≡ 0 = birth_answer_refusal (birth_refusal f) _ ∙ none 2 in
    let month = birth_month f born in
    let k = run_from steps pos f (birth_of f).state last_month (birth_of f).state (birth_sound f born) (omega arith) in
    rw started (
    record {
      figures = k.figures;
      state = k.state;
      number = omega (arith, k.number);
      whole = k.whole;
      never_20 = k.never_20;
      never_21 = k.never_21;
    })
