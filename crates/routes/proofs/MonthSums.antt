-- A month's sums as the code has them: by its exposure, by what accepted files give it, and all 84.
-- Assumes nothing.
use mathlib.Core.Path.{◌≡◌, sym, ap, ap₂, ◌∙◌}
use mathlib.Core.List.{List}
use Prim.Native.Nat.{ℕ, suc, ◌+◌, ◌≤◌, ◌<◌}
use native.Mathlib.Numerals.{add-one}
use lib.ListN.{length, get_or, replicate, set, length-set, length-replicate, get_or-replicate}
use lib.Seq.{get_or-set_same, get_or-set_other}
use native.Mathlib.Omega.{arith}
use Rattle.std.proofs.Common.{map, below_more}
use Rattle.std.proofs.lemmas.List.{length-map, get_or-map}
use Rattle.numbers.specs.Choice.{tab}
use Rattle.numbers.proofs.Every.{tab_is}
use Rattle.numbers.proofs.Refusals.{or_else_first, or_else-last, answer_refused}
use Rattle.exposure.specs.declared.Exposure.{Exposure}
use Rattle.site.specs.declared.Scenario.{Scenario}
use Rattle.row.specs.Row.{last_month}
use Rattle.intake.specs.Intake.{intake_refusal}
use Rattle.uptake.specs.declared.Routes.{Routes}
use Rattle.uptake.specs.Routes.{route_sum, day_routes}
use Rattle.files.specs.Files.{Files, files_refusal, scenario_in, table_in}
use Rattle.routes.specs.declared.RouteSums.{RouteSums}
use Rattle.routes.specs.Sums.{month_routes, sums_of, month_sums, sums_refusal, no_sums, kept_sums, monthly_sums}
use Rattle.routes.specs.MonthlySums.{by_route}
use Rattle.routes.specs.Internal.{exposed_sums, sums_in}

module _ (e : Exposure) (weight weight24 : ℕ) where
  pub exposed_none : (r : ℕ) → r ≡ intake_refusal e → (r ≡ 0 → ⊥) → no_sums ≡ exposed_sums e weight weight24
  unfolding exposed_sums
  exposed_none r er h = rw (← er) (sym (answer_refused (sums_of (day_routes e weight weight24)) (λ n. no_sums) r h))

  pub exposed_some : intake_refusal e ≡ 0 → {passive active : ℕ} {routes : Routes} → routes ≡ day_routes e weight weight24
      → passive ≡ route_sum routes.passive → active ≡ route_sum routes.active
      → ◌≡◌ {A = RouteSums} (record { passive = passive; active = active }) (exposed_sums e weight weight24)
  unfolding exposed_sums
  exposed_some z er ep ea = rw (z, ep, ea, er)

-- the sums of the first few months are stored
pub record SumsStored (scenario : Scenario) (table : List ℕ) (sums : List RouteSums) (done : ℕ) : Type 0 where
  pub long : length sums ≡ last_month
  pub each : (k : ℕ) → k < done → get_or sums k no_sums ≡ sums_in scenario table (suc k)

pub stored_none : (scenario : Scenario) (table : List ℕ) → SumsStored scenario table (replicate last_month no_sums) 0
stored_none scenario table = record { long = length-replicate last_month no_sums; each = λ k l. absurd (omega arith) }

pub stored_next : {scenario : Scenario} {table : List ℕ} {sums : List RouteSums} {done : ℕ} → SumsStored scenario table sums done → done < length sums
    → {x : RouteSums} → x ≡ sums_in scenario table (done + 1) → SumsStored scenario table (set sums done x) (done + 1)
stored_next {scenario} {table} {sums} {done} s l {x} e =
    let here : x ≡ sums_in scenario table (suc done) = rw add-one at e in
    record {
      long = length-set sums done x ∙ s.long;
      each =
          below_more (λ k. get_or (set sums done x) k no_sums ≡ sums_in scenario table (suc k)) done
          (λ k h. get_or-set_other sums done k x no_sums (λ z. absurd (omega arith)) ∙ s.each k h)
          (get_or-set_same sums done x no_sums l ∙ here);
    }

-- of accepted files, and of refused ones
module _ (f : Files) where
  pub accepted_sums : files_refusal f ≡ 0 → (m : ℕ) → sums_in (scenario_in f) (table_in f) m ≡ kept_sums f m
  unfolding sums_in exposed_sums kept_sums sums_refusal month_sums month_routes
  accepted_sums z m = rw (z, or_else-last _)

  refused_sums : (r : ℕ) → r ≡ files_refusal f → (r ≡ 0 → ⊥) → (m : ℕ) → kept_sums f m ≡ no_sums
  unfolding kept_sums sums_refusal
  refused_sums r er h m = rw (← er, or_else_first r _ h) (answer_refused (month_sums f m) (λ n. no_sums) r h)

  -- sums that are each month's are the months' sums
  each_month : (sums : List RouteSums) → length sums ≡ last_month → ((k : ℕ) → k < last_month → get_or sums k no_sums ≡ kept_sums f (suc k)) → by_route sums ≡ monthly_sums f
  unfolding monthly_sums
  each_month sums long each =
      let column : (g : RouteSums → ℕ) → map g sums ≡ tab last_month (λ k. g (kept_sums f (suc k))) =
      λ g. sym
      (tab_is last_month _ (map g sums) (length-map sums g ∙ long)
      (λ k l.
      let below : k < length sums = omega (arith, long) in
      sym (get_or-map g sums k no_sums 0 below ∙ ap g (each k l)))) in
      ap₂ (λ (p a : List ℕ). record { passive = p; active = a }) (column (λ s. s.passive)) (column (λ s. s.active))

  pub refused_monthly : (r : ℕ) → r ≡ files_refusal f → (r ≡ 0 → ⊥) → by_route (replicate last_month no_sums) ≡ monthly_sums f
  refused_monthly r er h =
      each_month (replicate last_month no_sums) (length-replicate last_month no_sums)
      (λ k l. get_or-replicate last_month k no_sums no_sums l ∙ sym (refused_sums r er h (suc k)))

  -- all 84, of accepted files: the loop over the months stores the sums of one after the other
  pub stored_all : {scenario : Scenario} {table : List ℕ} {sums : List RouteSums} {done : ℕ} → SumsStored scenario table sums done → length sums ≤ done
      → scenario ≡ scenario_in f → table ≡ table_in f → files_refusal f ≡ 0 → by_route sums ≡ monthly_sums f
  stored_all {sums = sums} s h es et z =
      each_month sums s.long (λ k l. s.each k (omega (arith, s.long)) ∙ (rw (es, et) (accepted_sums z (suc k))))
