-- The laws of the sums: a month that a run does has them, they are parts of its day's T, and what is kept of a month is bounded.
-- Assumes nothing.
use mathlib.Core.Path.{◌≡◌, refl, sym, ap, ◌∙◌}
use Prim.Native.Nat.{ℕ, zero, suc, ◌+◌, ◌≤◌, ◌<◌}
use native.Mathlib.Omega.{arith}
use native.Mathlib.Decide.{ℕ_discrete, dec_lt}
use lib.ListN.{length, get_or-eq_default}
use Rattle.numbers.specs.Choice.{tab}
use Rattle.numbers.proofs.Every.{length-tab, get_or-tab}
use Rattle.numbers.proofs.Refusals.{first_of_none, answer_both, answer_refused}
use Rattle.row.specs.Row.{last_month}
use Rattle.kinetics.specs.declared.State.{State}
use Rattle.uptake.specs.Age.{age_of}
use Rattle.uptake.specs.Routes.{day_routes, routes_total}
use Rattle.uptake.specs.Laws.{routes_limit}
use Rattle.uptake.proofs.UptakeBounds.{age_law}
use Rattle.uptake.proofs.RouteSums.{routes_law, route_sums_law}
use Rattle.child.specs.Answers.{MonthAnswer}
use Rattle.child.specs.Month.{month_after, exposure_in, month_uptake, child_refusals, child_refusal}
use Rattle.child.specs.Months.{MonthsRun, and_then, months_by}
use Rattle.child.proofs.MonthAnswers.{answer_refusal}
use Rattle.child.proofs.CourseMonths.{born_number}
use Rattle.child.proofs.RunLoop.{then_refused, then_accepted}
use Rattle.files.specs.Files.{Files, files_refusal, scenario_in, table_in}
use Rattle.engine.specs.Birth.{birth_refusal, birth_of}
use Rattle.engine.specs.Month.{month_refusals, month_refusal, month_of}
use Rattle.engine.specs.Run.{start_refusal, run_of}
use Rattle.engine.proofs.FilesDecoded.{files_decoded}
use Rattle.routes.specs.MonthlySums.{MonthlySums}
use Rattle.routes.specs.Sums.{month_routes, month_sums, sums_refusals, sums_refusal, no_sums, kept_sums, monthly_sums}
use Rattle.routes.specs.Laws.{DoneLaw, PartedLaw, SumsWithin, KeptLaw}

-- ---- months done

-- what holds of each accepted call's month, and the call's state is that of this month: it holds of each month done
module _ (call : State → MonthAnswer) (P : ℕ → Type 0)
    (accepted : (a : State) → (call a).refusal ≡ 0 → P (month_after a) × ((call a).state.month ≡ month_after a)) where
  -- of months that begin with the call's answer x, by x's number
  then_done : (n : ℕ) → ((b : State) (k : ℕ) → k < length (months_by call n b).figures → P (suc (b.month + k)))
      → (a : State) {x : MonthAnswer} → x ≡ call a → (r : ℕ) → x.refusal ≡ r
      → (k : ℕ) → k < length (and_then x (months_by call n x.state)).figures → P (suc (a.month + k))
  then_done n rest a {x} ex zero e zero h =
      let first : suc (a.month + 0) ≡ month_after a = omega arith in
      rw first (accepted a (rw ex at e)).0
  then_done n rest a {x} ex zero e (suc k) h =
      let all : length (and_then x (months_by call n x.state)).figures ≡ suc (length (months_by call n x.state).figures) = ap (λ (y : MonthsRun). length y.figures) (then_accepted x _ e) in
      let later : x.state.month ≡ month_after a = rw ex (accepted a (rw ex at e)).1 in
      let here : suc (a.month + suc k) ≡ suc (x.state.month + k) = omega (arith, later) in
      rw here (rest x.state k (omega (arith, all)))
  then_done n rest a {x} ex (suc r) e k h =
      let none : length (and_then x (months_by call n x.state)).figures ≡ 0 = ap (λ (y : MonthsRun). length y.figures) (then_refused x _ (λ z. omega (arith, z, e))) in
      absurd (omega (arith, none))

  months_done : (n : ℕ) (a : State) (k : ℕ) → k < length (months_by call n a).figures → P (suc (a.month + k))
  unfolding months_by
  months_done zero a k h = absurd (omega arith)
  months_done (suc n) a k h = then_done n (months_done n) a refl (call a).refusal refl k h

-- a month that the month call accepts has its sums, and its state is that of this month
month_accepted : (s : ℕ) (f : Files) (a : State) → (month_of s a f).refusal ≡ 0 → (sums_refusal f (month_after a) ≡ 0) × ((month_of s a f).state.month ≡ month_after a)
unfolding month_of month_refusal child_refusal sums_refusal
month_accepted s f a e =
    let none : month_refusal s a f ≡ 0 = sym (answer_refusal (month_refusal s a f) a _ refl) ∙ e in
    let of-files : files_refusal f ≡ 0 = first_of_none (month_refusals s a f) none 0 in
    let of-child = first_of_none (child_refusals s a (scenario_in f) (table_in f)) (first_of_none (month_refusals s a f) none 1) in
    (rw (of-files, of-child 1), rw none)

birth_number : (f : Files) → (birth_of f).state.month ≡ 0
unfolding birth_of
birth_number f = born_number (birth_refusal f) (scenario_in f) (table_in f)

pub done_law : DoneLaw
unfolding run_of
done_law s f places k =
    answer_both _ _ (λ (r : MonthsRun). k < length r.figures → sums_refusal f (suc k) ≡ 0)
    (λ h.
    let born : (birth_of f).state.month + k ≡ k = omega (arith, birth_number f) in
    rw born at (months_done (λ a. month_of s a f) (λ m. sums_refusal f m ≡ 0) (month_accepted s f) last_month (birth_of f).state k h))
    (λ n h. absurd (omega arith))
    (start_refusal f places)

-- ---- parts of T

pub parted_law : PartedLaw
unfolding month_sums month_routes month_uptake routes_total day_routes sums_refusal
parted_law f m h passed =
    let none = first_of_none (sums_refusals f m) passed in
    let e = exposure_in (scenario_in f) m in
    let within = (files_decoded f (none 0)).exposure (age_of m) (age_law m h) in
    record { total = routes_law e _ _; most = route_sums_law e _ _ within (none 1) }

-- ---- what is kept

-- both sums that are kept of a month together: its own, or zeros
kept_most : (f : Files) (m : ℕ) → m ≤ last_month → (kept_sums f m).passive + (kept_sums f m).active ≤ routes_limit
unfolding kept_sums
kept_most f m h =
    elim (ℕ_discrete (sums_refusal f m) 0) [
      | yes z ↦ rw z (parted_law f m h z).most
      | no z ↦ rw (answer_refused (month_sums f m) (λ n. no_sums) (sums_refusal f m) z) (omega arith)
    ]

pub kept_law : KeptLaw
unfolding monthly_sums
kept_law f =
    let passive = λ (j : ℕ). (kept_sums f (suc j)).passive in
    let active = λ (j : ℕ). (kept_sums f (suc j)).active in
    record {
      together =
          λ k.
          elim (dec_lt k last_month) [
            | yes l ↦ rw (get_or-tab last_month passive k l, get_or-tab last_month active k l) (kept_most f (suc k) (omega arith))
            | no l ↦
                rw (
                  get_or-eq_default (tab last_month passive) 0 {n = k} (omega (arith, length-tab last_month passive)),
                  get_or-eq_default (tab last_month active) 0 {n = k} (omega (arith, length-tab last_month active)),
                )
                (omega arith)
          ];
    }

-- and so sums that are those kept
pub kept_within : (f : Files) {sums : MonthlySums} → sums ≡ monthly_sums f → SumsWithin sums
kept_within f e = rw e (kept_law f)
