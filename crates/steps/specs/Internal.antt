-- For the contracts between the functions: what steps need, and their end. No open call's contract needs it.
-- Assumes nothing.
use Rattle.std.specs.Prelude.{◌≡◌, ℕ, ◌^◌, ◌+◌, ◌≤◌, ◌<◌, List, Result, IfOk}
use Rattle.refusal.specs.declared.Refusal.{Refusal}
use Rattle.refusal.specs.Refusal.{number_in}
use Rattle.row.specs.declared.Rates.{Rates}
use Rattle.row.specs.Limits.{RateLimits}
use Rattle.kinetics.specs.declared.State.{State}
use Rattle.kinetics.specs.Step.{burden, burden_limit}
use Rattle.state.specs.State.{ledger_sum}
use Rattle.steps.specs.Steps.{last_from, steps_refusal}

-- s steps a day that absorb t a day can be taken from a: the rates of each state are within their limits, and the ledgers have room for `more`
pub record Steppable (rates : State → Rates) (a : State) (s t more : ℕ) : Type 0 where
  pub limits : (b : State) → RateLimits (rates b)
  pub some : 0 < s
  pub few : s ≤ 1_000
  pub daily : t ≤ 6_000_000_000
  pub held : burden a.lead ≤ burden_limit
  pub room : burden a.lead + ledger_sum a + more ≤ 2 ^ 62

-- x is where steps from a that absorb us, t in all, end: the state that they left, or why one is refused
pub record ReachedBy (rates : State → Rates) (a : State) (us : List ℕ) (t : ℕ) (x : Result State Refusal) : Type 0 where
  pub refused : number_in x ≡ steps_refusal rates a us
  pub reached : IfOk x (λ b. b ≡ last_from rates a us)
  pub held : IfOk x (λ b. burden b.lead ≤ burden_limit)
  pub total : IfOk x (λ b. burden b.lead + ledger_sum b ≡ burden a.lead + ledger_sum a + t)
