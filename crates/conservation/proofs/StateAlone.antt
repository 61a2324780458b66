-- 20 and 21 are from the state alone: a call whose state is sound is not refused with 20, and before the last month not with 21.
-- Assumes nothing.
use Prim.Native.Nat.{ℕ, ◌≤◌, ◌<◌}
use mathlib.Core.Path.{◌≡◌}
use native.Mathlib.Omega.{arith}
use Rattle.numbers.proofs.Refusals.{first_of_not}
use Rattle.row.specs.Row.{last_month}
use Rattle.intake.proofs.Refusal9.{intake_of_input}
use Rattle.kinetics.specs.declared.State.{State}
use Rattle.state.specs.State.{state_refusal}
use Rattle.state.proofs.SoundState.{Sound, state_not_20, state_passes}
use Rattle.steps.proofs.Loops.{steps_not}
use Rattle.child.specs.Month.{month_after, exposure_in, month_rates, child_refusals, child_refusal}
use Rattle.files.specs.Files.{Files, scenario_in, table_in}
use Rattle.files.proofs.FilesPassed.{files_of_input}
use Rattle.engine.specs.Month.{month_refusals, month_refusal}

-- n is 20 or 21, and the state is not refused with it
module _ (n : ℕ) (least : 20 ≤ n) (most : n ≤ 21) (s : ℕ) (a : State) (f : Files) (state-not : state_refusal a ≡ n → ⊥) where
  child_not : child_refusal s a (scenario_in f) (table_in f) ≡ n → ⊥
  unfolding child_refusal
  child_not =
      first_of_not n (omega arith) (child_refusals s a (scenario_in f) (table_in f)) (
        state-not,
        (
          λ e. omega (arith, intake_of_input (exposure_in (scenario_in f) (month_after a))),
          (steps_not (month_rates (table_in f) (month_after a)) n (omega arith) (λ e. omega arith) a _, tt),
        ),
      )

  month_not : month_refusal s a f ≡ n → ⊥
  unfolding month_refusal
  month_not = first_of_not n (omega arith) (month_refusals s a f) (λ e. omega (arith, files_of_input f), (child_not, tt))

module _ {a : State} (sound : Sound a) where
  pub month_not_20 : (s : ℕ) (f : Files) → month_refusal s a f ≡ 20 → ⊥
  month_not_20 s f = month_not 20 (omega arith) (omega arith) s a f (state_not_20 sound)

  pub month_not_21 : (s : ℕ) (f : Files) → a.month < last_month → month_refusal s a f ≡ 21 → ⊥
  month_not_21 s f h = month_not 21 (omega arith) (omega arith) s a f (λ e. let p = state_passes sound h in omega arith)
