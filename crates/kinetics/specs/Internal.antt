-- For the contracts between the functions: what they ask of their callers, and what they promise each other. No open call's contract needs it.
-- Assumes nothing.
use Rattle.std.specs.Prelude.{◌≡◌, ℕ, ◌^◌, ◌+◌, ◌≤◌, ◌<◌, get_or}
use Rattle.row.specs.declared.Rates.{Rates}
use Rattle.row.specs.Limits.{RateLimits}
use Rattle.kinetics.specs.declared.State.{State}
use Rattle.kinetics.specs.declared.Divisors.{Divisors}
use Rattle.kinetics.specs.Step.{burden, burden_limit, compartment_divisor, divisor, urine_ledger, faeces_ledger, skin_ledger}

-- q holds the divisors of the rates: the six Ei, and d
pub record DivisorsOf (r : Rates) (q : Divisors) : Type 0 where
  pub compartments : (i : ℕ) → i < 6 → get_or q.compartments i 0 ≡ compartment_divisor r i
  pub plasma : q.plasma ≡ divisor r

-- a step that absorbs u is within the limits, and each ledger has room for its exit
pub record Ready (r : Rates) (q : Divisors) (s : State) (u : ℕ) : Type 0 where
  pub limits : RateLimits r
  pub divisors_of : DivisorsOf r q
  pub room : burden s.lead + u ≤ burden_limit
  pub urine_room : urine_ledger s + burden_limit < 2 ^ 64
  pub faeces_room : faeces_ledger s + burden_limit < 2 ^ 64
  pub skin_room : skin_ledger s + burden_limit < 2 ^ 64
