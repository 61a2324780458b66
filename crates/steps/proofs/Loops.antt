-- The loops over a day's steps and a month's days: what is ahead at the start, after a turn, and at the end.
-- Assumes nothing.
use mathlib.Core.Path.{◌≡◌, refl, sym, ap, ◌∙◌}
use mathlib.Core.List.{List, [], ◌∷◌, ◌++◌}
use Prim.Native.Nat.{ℕ, suc, ◌+◌, ◌-◌, ◌*◌, ◌≤◌, ◌<◌}
use native.Mathlib.Omega.{arith}
use borrow.Author.Tests.{le-leb, lt-leb}
use Rattle.numbers.specs.Choice.{unless, or_else}
use Rattle.numbers.proofs.Lists.{total_append}
use Rattle.numbers.proofs.Refusals.{or_else_first, or_else_not, or_else_assoc, unless_not}
use Rattle.row.specs.declared.Rates.{Rates}
use Rattle.row.specs.Limits.{RateLimits}
use Rattle.kinetics.specs.declared.State.{State}
use Rattle.kinetics.specs.declared.Divisors.{Divisors}
use Rattle.steps.specs.Share.{share_of}
use Rattle.kinetics.specs.Step.{burden, burden_limit, exits, exit_sum, next}
use Rattle.kinetics.specs.Internal.{DivisorsOf, Ready}
use Rattle.steps.proofs.ShareSum.{share_law}
use Rattle.margin.proofs.StepLaws.{step_law}
use Rattle.std.specs.Prelude.{Ok, Err}
use Rattle.refusal.specs.declared.Refusal.{Refusal}
use Rattle.refusal.specs.declared.Refusal.TheVariants.{BurdenTooLarge}
use Rattle.refusal.specs.Refusal.{number_of}
use Rattle.refusal.proofs.Numbers.{some_number}
use Rattle.state.specs.State.{ledger_sum, month_uptake_limit, burden_refusal}
use Rattle.steps.specs.Steps.{days_a_month, shares_from, day_shares, days_shares, last_from, steps_refusal}
use Rattle.steps.specs.Internal.{Steppable, ReachedBy}
use Rattle.steps.proofs.Shares.{sum_of, day_total, days_total}

-- no lead is lost or made by a step
pub step_conserves : (r : Rates) (a : State) (u : ℕ) → RateLimits r → burden (next r a u).lead + exit_sum (exits r a.lead u) ≡ burden a.lead + u
step_conserves r a u limits = let k = step_law r a u limits in rw k.lead k.law.conserved

-- all the lead of a state, in the body and in the ledgers
abbrev account : State → ℕ
account a = burden a.lead + ledger_sum a

-- a step adds its uptake to it
account_next : (r : Rates) (a : State) (u : ℕ) → RateLimits r → account (next r a u) ≡ account a + u
account_next r a u limits =
    let l = step_law r a u limits in
    omega (arith, step_conserves r a u limits, l.urine, l.faeces, l.skin)

-- the steps us and then vs
module _ (rates : State → Rates) where
  refusal_append : (a : State) (us vs : List ℕ) → steps_refusal rates a (us ++ vs) ≡ or_else (steps_refusal rates a us) (steps_refusal rates (last_from rates a us) vs)
  unfolding steps_refusal last_from
  refusal_append a [] vs = refl
  refusal_append a (u ∷ us) vs =
      let over = burden_refusal (burden a.lead + u) in
      ap (or_else over) (refusal_append (next (rates a) a u) us vs) ∙ or_else_assoc over (steps_refusal rates (next (rates a) a u) us) _

  -- the only refusal of steps is 22
  pub steps_not : (n : ℕ) → 0 < n → (n ≡ 22 → ⊥) → (a : State) (us : List ℕ) → steps_refusal rates a us ≡ n → ⊥
  unfolding steps_refusal
  steps_not n some h a [] e = omega arith
  steps_not n some h a (u ∷ us) e =
      let rest = steps_refusal rates (next (rates a) a u) us in
      or_else_not n (burden_refusal (burden a.lead + u)) rest (unless_not _ 22 n some (λ z. h (sym z))) (steps_not n some h (next (rates a) a u) us) e

  last-append : (a : State) (us vs : List ℕ) → last_from rates a (us ++ vs) ≡ last_from rates (last_from rates a us) vs
  unfolding last_from
  last-append a [] vs = refl
  last-append a (u ∷ us) vs = last-append (next (rates a) a u) us vs

-- steps at rates that the state gives
module _ (rates : State → Rates) where
  -- a loop over the steps us from a is at the state b, and the steps vs are ahead
  pub record Ahead (a : State) (us : List ℕ) (b : State) (vs : List ℕ) : Type 0 where
    pub held : burden b.lead ≤ burden_limit
    pub all : account b + sum_of vs ≡ account a + sum_of us
    pub refusal : steps_refusal rates a us ≡ steps_refusal rates b vs
    pub last : last_from rates a us ≡ last_from rates b vs

  ahead_end : {a b : State} {us : List ℕ} → Ahead a us b [] → {t : ℕ} → sum_of us ≡ t → ReachedBy rates a us t (Ok b)
  unfolding steps_refusal last_from
  ahead_end now e =
      record {
        refused = sym now.refusal;
        reached = sym now.last;
        held = now.held;
        total = omega (arith, now.all, e);
      }

  -- of refused steps nothing is claimed of the state
  refused_steps : {a : State} {us : List ℕ} {t : ℕ} {e : Refusal} → number_of e ≡ steps_refusal rates a us → ReachedBy rates a us t (Err e)
  refused_steps e = record { refused = e; reached = tt; held = tt; total = tt }

  -- a turn takes the steps vs, which absorb t; they are refused with e, or leave the state c
  module _ {a b : State} {us : List ℕ} (vs ws : List ℕ) (now : Ahead a us b (vs ++ ws)) where
    turn_refusal : {n : ℕ} → n ≡ steps_refusal rates b vs → steps_refusal rates a us ≡ or_else n (steps_refusal rates (last_from rates b vs) ws)
    turn_refusal e =
        now.refusal
        ∙ refusal_append rates b vs ws
        ∙ ap (λ (n : ℕ). or_else n (steps_refusal rates (last_from rates b vs) ws)) (sym e)

    turn_refused : {e : Refusal} {t : ℕ} → ReachedBy rates b vs t (Err e) → (n : ℕ) → ReachedBy rates a us n (Err e)
    turn_refused {e} turn n = refused_steps (sym (turn_refusal turn.refused ∙ or_else_first (number_of e) _ (some_number e)))

    turn_next : {c : State} {t : ℕ} → ReachedBy rates b vs t (Ok c) → sum_of vs ≡ t → Ahead a us c ws
    turn_next turn e =
        record {
          held = turn.held;
          all = omega (arith, now.all, turn.total, e, total_append (λ (u : ℕ). u) vs ws);
          refusal = turn_refusal turn.refused ∙ ap (λ (c : State). steps_refusal rates c ws) (sym turn.reached);
          last = now.last ∙ last-append rates b vs ws ∙ ap (λ (c : State). last_from rates c ws) (sym turn.reached);
        }

  -- one step that absorbs u, by its test
  module _ (b : State) (u : ℕ) where
    step_refused : burden_limit < burden b.lead + u → ReachedBy rates b (u ∷ []) u (Err BurdenTooLarge)
    unfolding steps_refusal unless
    step_refused over = refused_steps (rw (lt-leb (burden b.lead + u) burden_limit over))

    step_taken : RateLimits (rates b) → burden b.lead + u ≤ burden_limit → ReachedBy rates b (u ∷ []) u (Ok (next (rates b) b u))
    unfolding steps_refusal last_from unless
    step_taken limits fits =
        record {
          refused = rw (le-leb (burden b.lead + u) burden_limit fits);
          reached = refl;
          held = omega (arith, step_conserves (rates b) b u limits);
          total = account_next (rates b) b u limits;
        }

-- a day of s steps from a that absorb t
module _ {rates : State → Rates} {a : State} {s t more : ℕ} (steppable : Steppable rates a s t more) where
  -- at step k the state is b
  module _ {b : State} (k : ℕ) (now : Ahead rates a (day_shares s t) b (shares_from s t k (s - k))) where
    no_share_ahead : s ≤ k → Ahead rates a (day_shares s t) b []
    unfolding shares_from
    no_share_ahead h = let e : s - k ≡ 0 = omega arith in rw e at now

    pub day_end : s ≤ k → ReachedBy rates a (day_shares s t) t (Ok b)
    day_end h = ahead_end rates (no_share_ahead h) (day_total s t steppable.some)

    -- held and u as the code computes them
    module _ (h : k < s) {held u : ℕ} (eh : held ≡ burden b.lead) (eu : u ≡ share_of s t k) where
      share_ahead : Ahead rates a (day_shares s t) b (u ∷ shares_from s t (k + 1) (s - (k + 1)))
      unfolding shares_from
      share_ahead =
          let e : s - k ≡ suc (s - (k + 1)) = omega arith in
          rw (e, ← eu) at now

      pub day_sum_fits : held + u ≤ burden_limit + 6_000_000_000
      day_sum_fits = omega (arith, now.held, eh, eu, (share_law s t steppable.some).each k h, steppable.daily)

      pub day_refused : burden_limit < held + u → ReachedBy rates a (day_shares s t) t (Err BurdenTooLarge)
      day_refused over = turn_refused rates (u ∷ []) _ share_ahead (step_refused rates b u (omega (arith, eh))) t

      pub day_ready : {q : Divisors} → DivisorsOf (rates b) q → 6_000_000_000 ≤ more → held + u ≤ burden_limit → Ready (rates b) q b u
      day_ready divisors enough fits =
          let total = day_total s t steppable.some in
          let all = share_ahead.all in
          let room = steppable.room in
          record {
            limits = steppable.limits b;
            divisors_of = divisors;
            room = omega (arith, eh);
            urine_room = omega (arith, steppable.daily);
            faeces_room = omega (arith, steppable.daily);
            skin_room = omega (arith, steppable.daily);
          }

      pub day_next : held + u ≤ burden_limit → (c : State) → c ≡ next (rates b) b u → Ahead rates a (day_shares s t) c (shares_from s t (k + 1) (s - (k + 1)))
      day_next fits c e = rw e (turn_next rates (u ∷ []) _ share_ahead (step_taken rates b u (steppable.limits b) (omega (arith, eh))) (omega arith))

-- a month of thirty such days
module _ {rates : State → Rates} {a : State} {s t : ℕ} (steppable : Steppable rates a s t month_uptake_limit) where
  -- at day d the state is b
  module _ {b : State} (d : ℕ) (now : Ahead rates a (days_shares s t days_a_month) b (days_shares s t (days_a_month - d))) where
    no_day_ahead : days_a_month ≤ d → days_shares s t (days_a_month - d) ≡ []
    unfolding days_shares
    no_day_ahead h = let e : days_a_month - d ≡ 0 = omega arith in rw e

    pub month_end_lem : days_a_month ≤ d → ReachedBy rates a (days_shares s t days_a_month) (days_a_month * t) (Ok b)
    month_end_lem h = ahead_end rates (rw (no_day_ahead h) at now) (days_total s t steppable.some days_a_month)

    module _ (h : d < days_a_month) where
      abbrev later : List ℕ
      later = days_shares s t (days_a_month - (d + 1))

      days_ahead : days_shares s t (days_a_month - d) ≡ day_shares s t ++ later
      unfolding days_shares
      days_ahead = let e : days_a_month - d ≡ suc (days_a_month - (d + 1)) = omega arith in rw e

      day_ahead : Ahead rates a (days_shares s t days_a_month) b (day_shares s t ++ later)
      day_ahead = rw days_ahead at now

      pub day_steppable : Steppable rates b s t 6_000_000_000
      day_steppable =
          record {
            limits = steppable.limits;
            some = steppable.some;
            few = steppable.few;
            daily = steppable.daily;
            held = now.held;
            room =
                omega (
                  arith,
                  steppable.room,
                  steppable.daily,
                  day_ahead.all,
                  total_append (λ (u : ℕ). u) (day_shares s t) later,
                  day_total s t steppable.some,
                  days_total s t steppable.some days_a_month,
                );
          }

      -- the day that starts at b is refused with e, or leaves the state c
      pub month_refused : {e : Refusal} → ReachedBy rates b (day_shares s t) t (Err e) → ReachedBy rates a (days_shares s t days_a_month) (days_a_month * t) (Err e)
      month_refused day = turn_refused rates (day_shares s t) later day_ahead day (days_a_month * t)

      pub month_next : {c : State} → ReachedBy rates b (day_shares s t) t (Ok c) → Ahead rates a (days_shares s t days_a_month) c later
      month_next day = turn_next rates (day_shares s t) later day_ahead day (day_total s t steppable.some)
