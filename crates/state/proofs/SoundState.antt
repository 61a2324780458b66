-- A state that is not refused is sound, and a sound state is refused with 21 in its last month, else not at all.
-- Assumes nothing.
use Prim.Native.Nat.{ℕ, ◌+◌, ◌*◌, ◌≤◌, ◌<◌}
use mathlib.Core.Path.{◌≡◌}
use mathlib.Core.Bool.{true, not}
use native.Mathlib.Omega.{arith}
use borrow.Author.Tests.{leb-true, le-leb, eqb-false, ne_eqb, not-true}
use lib.ListN.{get_or}
use lib.Dec.{leb, eqb}
use Rattle.numbers.specs.Choice.{unless}
use Rattle.numbers.proofs.Every.{and_true, and_left, and_right}
use Rattle.numbers.proofs.Refusals.{first_of_none, first_of_not, unless_none, unless_not}
use Rattle.row.specs.Row.{last_month}
use Rattle.kinetics.specs.declared.State.{State}
use Rattle.kinetics.specs.Step.{burden, burden_limit}
use Rattle.state.specs.State.{ledger_sum, month_uptake_limit, is_state, state_refusals, state_refusal}

-- what 20 tests of a state
pub record Sound (a : State) : Type 0 where
  pub month : a.month ≤ last_month
  pub held : burden a.lead ≤ burden_limit
  pub all : burden a.lead + ledger_sum a ≤ burden_limit + a.month * month_uptake_limit

pub sound_is_state : {a : State} → Sound a → is_state a ≡ true
unfolding is_state
sound_is_state k = and_true _ _ (le-leb _ _ k.month) (and_true _ _ (le-leb _ _ k.held) (le-leb _ _ k.all))

state_is_sound : (a : State) → is_state a ≡ true → Sound a
unfolding is_state
state_is_sound a t =
    let rest = and_right (leb a.month last_month) _ t in
    record {
      month = leb-true _ _ (and_left (leb a.month last_month) _ t);
      held = leb-true _ _ (and_left (leb (burden a.lead) burden_limit) _ rest);
      all = leb-true _ _ (and_right (leb (burden a.lead) burden_limit) _ rest);
    }

-- a state that is not refused is sound, and a month can follow it
module _ (a : State) (passed : state_refusal a ≡ 0) where
  none : (k : ℕ) → get_or (state_refusals a) k 0 ≡ 0
  unfolding state_refusal
  none = first_of_none (state_refusals a) passed

  pub passed_sound : Sound a
  passed_sound = state_is_sound a (unless_none _ 20 (omega arith) (none 0))

  pub passed_before : a.month < last_month
  passed_before =
      let h = not-true _ (unless_none _ 21 (omega arith) (none 1)) in
      let n = eqb-false a.month last_month h in
      omega (arith, passed_sound.month)

-- what a sound state is refused with
module _ {a : State} (sound : Sound a) where
  pub state_not_20 : state_refusal a ≡ 20 → ⊥
  unfolding state_refusal unless
  state_not_20 =
      first_of_not 20 (omega arith) (state_refusals a)
      (rw (sound_is_state sound) (λ e. omega arith), (unless_not (not (eqb a.month last_month)) 21 20 (omega arith) (λ e. omega arith), tt))

  pub state_passes : a.month < last_month → state_refusal a ≡ 0
  unfolding state_refusal unless
  state_passes h = rw (sound_is_state sound, ne_eqb a.month last_month (λ e. omega arith))
