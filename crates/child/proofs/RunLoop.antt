-- The loop over a run's months: its start, a month more, its end; and months by calls that agree.
-- Assumes nothing.
use Prim.Native.Nat.{ℕ, zero, suc, ◌+◌, ◌-◌, ◌≤◌, ◌<◌}
use mathlib.Core.Path.{◌≡◌, refl, ap, ◌∙◌, sym}
use mathlib.Core.List.{List, [], ◌∷◌, ◌++◌, append-nil, append_assoc}
use native.Mathlib.Omega.{arith}
use native.Mathlib.Numerals.{add-one}
use lib.ListN.{length, take, drop, set, length-set, take-append-drop}
use lib.Seq.{length-take-le, take-suc-set, drop-set-lt, drop-drop}
use Rattle.numbers.proofs.Refusals.{answer_refused}
use Rattle.site.specs.declared.Scenario.{Scenario}
use Rattle.row.specs.Row.{last_month}
use Rattle.kinetics.specs.declared.State.{State}
use Rattle.child.specs.Answers.{MonthAnswer, RunAnswer}
use Rattle.child.specs.Month.{child_refusal, child_month}
use Rattle.child.specs.Months.{MonthsRun, no_month, month_then, and_then, months_by, run_answer, run_list}
use Rattle.child.proofs.MonthAnswers.{refused_answer, answer_refusal}

-- the figures bs, and then the run r
abbrev prefixed : List ℕ → MonthsRun → MonthsRun
prefixed bs r = record { refusal = r.refusal; figures = bs ++ r.figures; state = r.state }

-- a run that begins with the month m, by whether m is refused
module _ (m : MonthAnswer) (rest : MonthsRun) where
  pub then_refused : (m.refusal ≡ 0 → ⊥) → and_then m rest ≡ no_month m.refusal m.state
  then_refused = answer_refused _ _ m.refusal

  pub then_accepted : m.refusal ≡ 0 → and_then m rest ≡ month_then m rest
  then_accepted z = rw z

-- x and l are what a run of months answers and what it leaves in the list l₀
abbrev pub Done : MonthsRun → List ℕ → RunAnswer → List ℕ → Type 0
Done run l₀ x l = (x ≡ run_answer run) × (l ≡ run_list run l₀)

-- a run from a is at month i: the state is b, and the list, which was l₀, is l
pub record InRun (call : State → MonthAnswer) (a : State) (l₀ l : List ℕ) (b : State) (i : ℕ) : Type 0 where
  pub reach : i ≤ last_month
  pub long : length l ≡ last_month
  pub same : months_by call last_month a ≡ prefixed (take i l) (months_by call (last_month - i) b)
  pub rest : drop i l ≡ drop i l₀

module _ {call : State → MonthAnswer} {a b : State} {l₀ l : List ℕ} {i : ℕ} (inv : InRun call a l₀ l b i) where
  written-length : length (take i l) ≡ i
  written-length = length-take-le i l (omega (arith, inv.reach, inv.long))

  ends : (r : ℕ) → months_by call (last_month - i) b ≡ no_month r b → Done (months_by call last_month a) l₀ (record { refusal = r; months = i; state = b }) l
  ends r e =
      let w : months_by call last_month a ≡ prefixed (take i l) (no_month r b) = inv.same ∙ ap (prefixed (take i l)) e in
      (rw (w, append-nil (take i l), written-length), rw (w, append-nil (take i l), written-length, ← inv.rest) (sym (take-append-drop i l)))

  pub run_end : last_month ≤ i → Done (months_by call last_month a) l₀ (record { refusal = 0; months = last_month; state = b }) l
  unfolding months_by
  run_end g =
      let none_left : last_month - i ≡ 0 = omega arith in
      let all : i ≡ last_month = omega (arith, inv.reach) in
      let done = ends 0 (rw none_left) in
      (ap (λ (n : ℕ). record { refusal = 0; months = n; state = b }) (sym all) ∙ done.0, done.1)

  -- the month's answer m, as the code has it
  module _ (g : i < last_month) {m : MonthAnswer} (em : m ≡ call b) where
    later : MonthsRun
    later = months_by call (last_month - (i + 1)) m.state

    month_ahead : months_by call (last_month - i) b ≡ and_then m later
    unfolding months_by later
    month_ahead =
        let left : last_month - i ≡ suc (last_month - (i + 1)) = omega arith in
        rw left (ap (λ (x : MonthAnswer). and_then x (months_by call (last_month - (i + 1)) x.state)) (sym em))

    pub run_stop : ((c : State) → ((call c).refusal ≡ 0 → ⊥) → (call c).state ≡ c) → (m.refusal ≡ 0 → ⊥)
        → Done (months_by call last_month a) l₀ (record { refusal = m.refusal; months = i; state = b }) l
    run_stop kept z =
        let same : m.state ≡ b = rw em (kept b (rw em at z)) in
        ends m.refusal (month_ahead ∙ then_refused m later z ∙ ap (no_month m.refusal) same)

    pub run_next : m.refusal ≡ 0 → InRun call a l₀ (set l i m.blood) m.state (i + 1)
    unfolding later
    run_next z =
        let v = m.blood in
        let written : take (i + 1) (set l i v) ≡ take i l ++ (v ∷ []) = rw add-one (take-suc-set l i v (omega (arith, inv.long))) in
        let kept : drop (i + 1) l ≡ drop (i + 1) l₀ = sym (drop-drop 1 i l) ∙ ap (drop 1) inv.rest ∙ drop-drop 1 i l₀ in
        record {
          reach = omega arith;
          long = length-set l i v ∙ inv.long;
          same = rw (written, append_assoc) (inv.same ∙ ap (prefixed (take i l)) (month_ahead ∙ then_accepted m later z));
          rest = drop-set-lt (i + 1) l i v (omega arith) ∙ kept;
        }

-- a refused month returns the state it was given
pub child_kept : (s : ℕ) (scenario : Scenario) (table : List ℕ) (a : State) → ((child_month s a scenario table).refusal ≡ 0 → ⊥) → (child_month s a scenario table).state ≡ a
unfolding child_month
child_kept s scenario table a h =
    let r = child_refusal s a scenario table in
    sym (ap (λ (m : MonthAnswer). m.state) (refused_answer r a _ (λ z. h (answer_refusal r a _ refl ∙ z))))

-- months by calls that agree
pub months_agree : (call other : State → MonthAnswer) → ((a : State) → call a ≡ other a) → (n : ℕ) (a : State) → months_by call n a ≡ months_by other n a
unfolding months_by
months_agree call other h zero a = refl
months_agree call other h (suc n) a =
    ap (λ (m : MonthAnswer). and_then m (months_by call n m.state)) (h a)
    ∙ ap (and_then (other a)) (months_agree call other h n (other a).state)
