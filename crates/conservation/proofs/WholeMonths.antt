-- An accepted call is a whole month that balances, and every month end, birth's too, is a state.
-- Assumes nothing.
use Prim.Native.Nat.{ℕ, zero, suc, ◌*◌, ◌≤◌, ◌<◌}
use mathlib.Core.Path.{◌≡◌, refl, sym, ◌∙◌}
use mathlib.Core.List.{List}
use native.Mathlib.Omega.{arith}
use borrow.Author.Tests.{leb-true}
use lib.ListN.{length, get_or}
use Rattle.numbers.proofs.Refusals.{first_of_none, unless_none}
use Rattle.site.specs.Scenario.{mother_of}
use Rattle.row.specs.declared.Rates.{Rates}
use Rattle.row.specs.Row.{row_of, last_month}
use Rattle.row.specs.Limits.{RateLimits}
use Rattle.uptake.specs.Age.{age_of}
use Rattle.uptake.specs.Laws.{day_limit}
use Rattle.uptake.proofs.UptakeBounds.{age_law, day_law}
use Rattle.kinetics.specs.declared.State.{State}
use Rattle.kinetics.specs.Step.{burden, burden_limit}
use Rattle.blood.specs.Birth.{birth_state}
use Rattle.blood.proofs.BirthAmounts.{birth_law}
use Rattle.files.specs.Files.{Files, scenario_in, table_in}
use Rattle.steps.specs.Steps.{days_a_month, steps_from, last_from}
use Rattle.engine.specs.Birth.{birth_refusals, birth_refusal, birth_of}
use Rattle.child.specs.Birth.{newborn, newborn_refusal}
use Rattle.engine.specs.Month.{month_refusals, month_refusal, month_of}
use Rattle.child.specs.Month.{month_after, exposure_in, month_uptake, month_rates, month_shares, month_end, child_refusals, child_refusal, month_last}
use Rattle.conservation.specs.Conservation.{Month, WholeMonth, daily_of, steps_of}
use Rattle.child.specs.Decoded.{Decoded}
use Rattle.steps.proofs.Shares.{days_total, days_length, sum_of}
use Rattle.engine.proofs.FilesDecoded.{files_decoded}
use Rattle.state.proofs.SoundState.{Sound, passed_sound}
use Rattle.child.proofs.MonthAnswers.{month_after_most, answer_refusal, birth_answer_refusal}
use Rattle.conservation.proofs.StepsBalance.{StepsBalanced, chain_to, steps_chain, steps_count, steps_uptake, steps_balance, steps-within}

module _ (s : ℕ) (a : State) (f : Files) where
  pub month_refusal_lem : (month_of s a f).refusal ≡ month_refusal s a f
  unfolding month_of
  month_refusal_lem = answer_refusal (month_refusal s a f) a _ refl

  pub month_kept : (r : ℕ) → month_refusal s a f ≡ suc r → (month_of s a f).state ≡ a
  unfolding month_of
  month_kept r e = rw e

  month_ended : month_refusal s a f ≡ 0 → (month_of s a f).state ≡ month_end a (month_last s a (scenario_in f) (table_in f))
  unfolding month_of
  month_ended e = rw e

-- an accepted call's month
pub record MonthDone (steps : Files → ℕ) (m : Month) : Type 0 where
  pub whole : WholeMonth steps m
  pub balance : StepsBalanced m.before m.after (steps_of steps m) (days_a_month * daily_of m)
  pub sound : Sound m.after

module _ (steps : Files → ℕ) (pos : (f : Files) → 0 < steps f) (a : State) (f : Files) (accepted : month_refusal (steps f) a f ≡ 0) where
  abbrev T : ℕ
  T = month_uptake (scenario_in f) (table_in f) (month_after a)

  abbrev uptakes : List ℕ
  uptakes = month_shares (steps f) (scenario_in f) (table_in f) (month_after a)

  call_none : (k : ℕ) → get_or (month_refusals (steps f) a f) k 0 ≡ 0
  unfolding month_refusal
  call_none = first_of_none (month_refusals (steps f) a f) accepted

  child_none : (k : ℕ) → get_or (child_refusals (steps f) a (scenario_in f) (table_in f)) k 0 ≡ 0
  unfolding child_refusal
  child_none = first_of_none (child_refusals (steps f) a (scenario_in f) (table_in f)) (call_none 1)

  uptakes_total : sum_of uptakes ≡ days_a_month * T
  unfolding month_shares
  uptakes_total = days_total (steps f) T (pos f) days_a_month

  uptakes_count : length uptakes ≡ days_a_month * steps f
  unfolding month_shares
  uptakes_count = days_length (steps f) T days_a_month

  decoded : Decoded (scenario_in f) (table_in f)
  decoded = files_decoded f (call_none 0)

  month_most : month_after a ≤ last_month
  month_most = month_after_most a (child_none 0)

  -- T of an accepted call
  T_most : T ≤ day_limit
  unfolding month_uptake
  T_most =
      day_law (exposure_in (scenario_in f) (month_after a)) _ _
      (decoded.exposure (age_of (month_after a)) (age_law (month_after a) month_most)) (child_none 1)

  abbrev rates : State → Rates
  rates = month_rates (table_in f) (month_after a)

  rates_within : (b : State) → RateLimits (rates b)
  rates_within b = (decoded.row (month_after a) month_most).rates

  abbrev last : State
  last = last_from rates a uptakes

  month_balance : StepsBalanced a (month_end a last) (steps_from rates a uptakes) (days_a_month * T)
  month_balance =
      let b = rw uptakes_total at (steps_balance rates rates_within a uptakes) in
      record { lead = b.lead; urine = b.urine; faeces = b.faeces; skin = b.skin }

  accepted_end : MonthDone steps (record { before = a; files = f; after = month_end a last })
  accepted_end =
      let before = passed_sound a (child_none 0) in
      let b = month_balance in
      record {
        whole = record {
          number = refl;
          chain = chain_to a last (month_end a last) (steps_from rates a uptakes) refl refl (steps_chain rates rates_within a uptakes);
          count = steps_count rates a uptakes ∙ uptakes_count;
          uptake = steps_uptake rates a uptakes ∙ uptakes_total;
        };
        balance = b;
        sound = record {
          month = month_most;
          held = steps-within rates rates_within a uptakes (child_none 2) before.held;
          all = omega (arith, T_most);
        };
      }

  pub month_accepted : MonthDone steps (record { before = a; files = f; after = (month_of (steps f) a f).state })
  unfolding month_last
  month_accepted = rw (month_ended (steps f) a f accepted) accepted_end

-- the state that any call answers
pub month_sound : (steps : Files → ℕ) → ((f : Files) → 0 < steps f) → (a : State) (f : Files) → Sound a → Sound (month_of (steps f) a f).state
month_sound steps pos a f sound = by_refusal (month_refusal (steps f) a f) refl
  where
    by_refusal : (r : ℕ) → month_refusal (steps f) a f ≡ r → Sound (month_of (steps f) a f).state
    by_refusal zero e = (month_accepted steps pos a f e).sound
    by_refusal (suc r) e = rw (month_kept (steps f) a f r e) sound

-- an accepted birth
module _ (f : Files) (accepted : (birth_of f).refusal ≡ 0) where
  birth_accepted : birth_refusal f ≡ 0
  unfolding birth_of
  birth_accepted = sym (birth_answer_refusal (birth_refusal f) _) ∙ accepted

  birth_none : (k : ℕ) → get_or (birth_refusals f) k 0 ≡ 0
  unfolding birth_refusal
  birth_none = first_of_none (birth_refusals f) birth_accepted

  newborn_held : burden (newborn (scenario_in f) (table_in f)).lead ≤ burden_limit
  unfolding newborn_refusal
  newborn_held = leb-true _ burden_limit (unless_none _ 22 (omega arith) (birth_none 1))

  newborn_sound : Sound (newborn (scenario_in f) (table_in f))
  unfolding newborn
  newborn_sound =
      let d = files_decoded f (birth_none 0) in
      let k = birth_law (row_of (table_in f) 0) (mother_of (scenario_in f)) (d.row 0 (omega arith)) d.mother in
      record {
        month = omega arith;
        held = newborn_held;
        all = rw k.ledgers (omega (arith, newborn_held));
      }

  pub birth_sound : Sound (birth_of f).state
  unfolding birth_of
  birth_sound = rw birth_accepted newborn_sound

  pub birth_month : (birth_of f).state.month ≡ 0
  unfolding birth_of newborn birth_state
  birth_month = rw birth_accepted
