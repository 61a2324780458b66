-- What a month of a child answers, by where its steps end, and what a birth answers.
-- Assumes nothing.
use mathlib.Core.Path.{◌≡◌, refl, sym, ap, ◌∙◌}
use mathlib.Core.List.{List}
use Prim.Native.Nat.{ℕ, zero, suc, ◌*◌, ◌≤◌}
use native.Mathlib.Omega.{arith}
use Rattle.numbers.specs.Choice.{or_else, answer_by}
use Rattle.numbers.proofs.Refusals.{or_else_first, or_else-last, answer_refused, answer_number}
use Rattle.site.specs.declared.Scenario.{Scenario}
use Rattle.row.specs.declared.Row.{Row}
use Rattle.row.specs.declared.Rates.{Rates}
use Rattle.row.specs.Row.{last_month, row_of}
use Rattle.row.specs.Limits.{RowLimits}
use Rattle.intake.specs.Intake.{intake_refusal}
use Rattle.kinetics.specs.declared.State.{State}
use Rattle.child.specs.Answers.{BirthAnswer, MonthAnswer}
use Rattle.std.specs.Prelude.{Ok, Err}
use Rattle.refusal.specs.declared.Refusal.{Refusal}
use Rattle.refusal.specs.Refusal.{number_of}
use Rattle.refusal.proofs.Numbers.{some_number}
use Rattle.state.specs.State.{month_uptake_limit, state_refusal}
use Rattle.steps.specs.Steps.{steps_a_day, days_a_month, days_shares}
use Rattle.child.specs.Birth.{accepted_birth, refused_birth, birth_answer}
use Rattle.child.specs.Month.{month_after, exposure_in, saturation_month, month_uptake, month_shares, refused_month, accepted_month, child_refusal, month_last, child_month}
use Rattle.exposure.specs.declared.Exposure.{Exposure}
use Rattle.uptake.specs.Uptake.{day_uptake}
use Rattle.uptake.specs.Age.{age_of}
use Rattle.uptake.specs.Laws.{day_limit}
use Rattle.uptake.proofs.UptakeBounds.{age_law}
use Rattle.steps.specs.Internal.{Steppable, ReachedBy}
use Rattle.child.specs.Decoded.{Decoded}
use Rattle.child.specs.Internal.{stepped_month, MonthLimits, MonthGiven, exposed_month, given_month, month_from}
use Rattle.state.proofs.SoundState.{passed_sound, passed_before}

-- what a month and a birth answer, by the number
pub refused_answer : (r : ℕ) (a : State) (accepted : MonthAnswer) → (r ≡ 0 → ⊥) → refused_month r a ≡ answer_by r accepted (λ n. refused_month n a)
refused_answer r a accepted h = sym (answer_refused accepted (λ n. refused_month n a) r h)

pub answer_refusal : (r : ℕ) (a : State) (accepted : MonthAnswer) → accepted.refusal ≡ 0 → (answer_by r accepted (λ n. refused_month n a)).refusal ≡ r
answer_refusal r a accepted none = answer_number accepted (λ n. refused_month n a) (λ (m : MonthAnswer). m.refusal) none (λ n. refl) r

pub refused_birth_lem : (r : ℕ) (child : State) → (r ≡ 0 → ⊥) → refused_birth r ≡ birth_answer r child
refused_birth_lem r child h = sym (answer_refused (accepted_birth child) refused_birth r h)

pub birth_answer_refusal : (r : ℕ) (child : State) → (birth_answer r child).refusal ≡ r
birth_answer_refusal r child = answer_number (accepted_birth child) refused_birth (λ (x : BirthAnswer). x.refusal) refl (λ n. refl) r

-- the month after a state that a month can follow is a month of the book
pub month_after_most : (a : State) → state_refusal a ≡ 0 → month_after a ≤ last_month
month_after_most a passed = omega (arith, passed_before a passed)

-- thirty days of six steps can be taken from a state that a month can follow
pub month_steppable : {row : Row} (a : State) {t : ℕ} → state_refusal a ≡ 0 → RowLimits row → t ≤ day_limit
    → Steppable (λ b. row.rates) a steps_a_day t month_uptake_limit
month_steppable a passed limits daily =
    let sound = passed_sound a passed in
    record {
      limits = λ b. limits.rates;
      some = omega arith;
      few = omega arith;
      daily = daily;
      held = sound.held;
      room = omega (arith, sound.all, passed_before a passed);
    }

-- what accepted files give month m is within its limits
pub limits-at : {scenario : Scenario} {table : List ℕ} → Decoded scenario table → (m : ℕ) → m ≤ last_month
    → MonthLimits (exposure_in scenario m) (row_of table m) (row_of table saturation_month).body_weight
limits-at d m h =
    let limits = d.row m h in
    let limits24 = d.row saturation_month (omega arith) in
    record {
      exposed = d.exposure (age_of m) (age_law m h);
      booked = limits;
      weights = record { least = limits.body_least; most = limits.body_most; least24 = limits24.body_least; most24 = limits24.body_most };
    }

-- by where its steps end
module _ (s : ℕ) (rates : State → Rates) (a : State) (row : Row) (t : ℕ) where
  pub stepped_refused : (e : Refusal) → ReachedBy rates a (days_shares s t days_a_month) (days_a_month * t) (Err e)
      → refused_month (number_of e) a ≡ stepped_month s rates a row t
  unfolding stepped_month
  stepped_refused e r = rw (← r.refused) (refused_answer (number_of e) a _ (some_number e))

  pub stepped_accepted : (b : State) → ReachedBy rates a (days_shares s t days_a_month) (days_a_month * t) (Ok b)
      → accepted_month a b row ≡ stepped_month s rates a row t
  unfolding stepped_month
  stepped_accepted b r = rw (sym r.refused, ← r.reached)

module _ (s : ℕ) (a : State) (scenario : Scenario) (table : List ℕ) where
  -- refusals 20 and 21, and what follows
  pub child_refused : (r : ℕ) → r ≡ state_refusal a → (r ≡ 0 → ⊥) → refused_month r a ≡ child_month s a scenario table
  unfolding child_month child_refusal
  child_refused r e h = rw (← e, or_else_first r _ h) (refused_answer r a _ h)

  pub child_passed : state_refusal a ≡ 0 → month_from s a scenario table ≡ child_month s a scenario table
  unfolding month_from child_month child_refusal
  child_passed z = rw z

-- what is answered by the first of two refusals, and then by the second
answer_either : {A : Type 0} (x : A) (refused : ℕ → A) (r s : ℕ) → answer_by r (answer_by s x refused) refused ≡ answer_by (or_else r s) x refused
answer_either x refused zero s = refl
answer_either x refused (suc r) s = refl

-- by its exposure, its row and the body weight that the saturation is given for
module _ (s : ℕ) (a : State) (e : Exposure) (row : Row) (weight24 : ℕ) where
  -- refusals 20 and 21, and what follows
  pub given_refused : (r : ℕ) → r ≡ state_refusal a → (r ≡ 0 → ⊥) → refused_month r a ≡ given_month s a e row weight24
  unfolding given_month
  given_refused r er h = rw (← er) (refused_answer r a _ h)

  pub given_passed : state_refusal a ≡ 0 → exposed_month s a e row weight24 ≡ given_month s a e row weight24
  unfolding given_month
  given_passed z = rw z

  -- refusal 9, and the steps
  pub exposed_refused : (r : ℕ) → r ≡ intake_refusal e → (r ≡ 0 → ⊥) → refused_month r a ≡ exposed_month s a e row weight24
  unfolding exposed_month
  exposed_refused r er h = rw (← er) (refused_answer r a _ h)

  pub exposed_stepped : intake_refusal e ≡ 0 → {t : ℕ} → t ≡ day_uptake e row.body_weight weight24
      → {m : MonthAnswer} → m ≡ stepped_month s (λ b. row.rates) a row t → m ≡ exposed_month s a e row weight24
  unfolding exposed_month
  exposed_stepped z et em = rw (z, ← et) em

  -- the month of a scenario and a table that give these three
  module _ {scenario : Scenario} {table : List ℕ} (given : MonthGiven scenario table a e row weight24) where
    pub exposed_from : exposed_month s a e row weight24 ≡ month_from s a scenario table
    unfolding exposed_month stepped_month month_from month_last month_shares month_uptake
    exposed_from =
        rw (given.exposure_is, given.row_is, given.weight_is, or_else-last _)
        (answer_either _ (λ n. refused_month n a) (intake_refusal (exposure_in scenario (month_after a))) _)

    pub given_child : given_month s a e row weight24 ≡ child_month s a scenario table
    unfolding given_month child_month child_refusal month_from
    given_child =
        ap (λ (m : MonthAnswer). answer_by (state_refusal a) m (λ n. refused_month n a)) exposed_from
        ∙ answer_either _ (λ n. refused_month n a) (state_refusal a) _
