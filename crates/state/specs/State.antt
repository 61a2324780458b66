-- The child's state, and what is no state (document 01, "Calls and refusal numbers", 20 and 21).
-- Assumes nothing.
use Rattle.std.specs.Prelude.{ℕ, ◌+◌, ◌*◌, Bool, not, ◌&&◌, List, [], ◌∷◌, leb, eqb}
use Rattle.numbers.specs.Choice.{unless, first_of}
use Rattle.row.specs.Row.{last_month}
use Rattle.kinetics.specs.declared.State.{State}
use Rattle.kinetics.specs.Step.{burden, urine_ledger, faeces_ledger, skin_ledger, burden_limit}

-- what the three ledgers hold together
abbrev pub ledger_sum : State → ℕ
ledger_sum a = urine_ledger a + faeces_ledger a + skin_ledger a

-- the most that a month can bring: thirty days of 6 × 10^9
abbrev pub month_uptake_limit : ℕ
month_uptake_limit = 180_000_000_000

-- a state: month at most 84, burden at most 5 × 10^10, burden plus ledgers at most 5 × 10^10 + month × 1.8 × 10^11
unfoldable pub is_state : State → Bool
is_state a =
    leb a.month last_month
    && (leb (burden a.lead) burden_limit && leb (burden a.lead + ledger_sum a) (burden_limit + a.month * month_uptake_limit))

-- 20 no state, 21 month is 84
abbrev pub state_refusals : State → List ℕ
state_refusals a = unless (is_state a) 20 ∷ unless (not (eqb a.month last_month)) 21 ∷ []

unfoldable pub state_refusal : State → ℕ
state_refusal a = first_of (state_refusals a)

-- 22: a burden, or a burden and what a step is to absorb, over 5 × 10^10
abbrev pub burden_refusal : ℕ → ℕ
burden_refusal held = unless (leb held burden_limit) 22

-- the all-zero state
unfoldable pub zero_state : State
zero_state = record { month = 0; lead = 0 ∷ 0 ∷ 0 ∷ 0 ∷ 0 ∷ 0 ∷ 0 ∷ []; ledgers = 0 ∷ 0 ∷ 0 ∷ [] }
