-- Demand 3: one statement about a whole list of month calls and every two month ends in it. Each call has the number of steps a day that
-- `steps` gives for its files.
-- Assumes nothing.
use Rattle.std.specs.Prelude.{ℕ, ◌+◌, ◌-◌, ◌*◌, ◌≤◌, ◌<◌, ◌≡◌, List, [], ◌∷◌, map, length, get_or, take, drop}
use Rattle.numbers.specs.Choice.{answer_by}
use Rattle.numbers.specs.Lists.{total_of}
use Rattle.kinetics.specs.declared.State.{State}
use Rattle.kinetics.specs.Step.{Exits, plasma, burden, urine_ledger, faeces_ledger, skin_ledger}
use Rattle.margin.specs.Margin.{Margin}
use Rattle.files.specs.Files.{Files, scenario_in, table_in}
use Rattle.steps.specs.Steps.{steps_a_day, days_a_month, Step, exits_of, leaves, steps_from}
use Rattle.engine.specs.Birth.{birth_of}
use Rattle.engine.specs.Month.{month_of}
use Rattle.child.specs.Month.{month_after, month_uptake, month_rates, month_shares}

-- an accepted month call: the state it got, its files, the state it answered
pub record Month : Type 0 where
  pub before : State
  pub files : Files
  pub after : State

-- the accepted ones of month calls, each with its own files: the first gets a, each later one what the one before answered
abbrev pub keep : ℕ → Month → List Month → List Month
keep r m ms = answer_by r (m ∷ ms) (λ n. ms)

unfoldable pub accepted_months : (Files → ℕ) → State → List Files → List Month
accepted_months steps a [] = []
accepted_months steps a (f ∷ fs) =
    let answer = month_of (steps f) a f in
    keep answer.refusal (record { before = a; files = f; after = answer.state }) (accepted_months steps answer.state fs)

-- T of an accepted month, from its own files, for the month after that of the state it got; and its steps
abbrev pub daily_of : Month → ℕ
daily_of m = month_uptake (scenario_in m.files) (table_in m.files) (month_after m.before)

abbrev pub steps_of : (Files → ℕ) → Month → List Step
steps_of steps m =
    steps_from (month_rates (table_in m.files) (month_after m.before)) m.before
    (month_shares (steps m.files) (scenario_in m.files) (table_in m.files) (month_after m.before))

-- the first step starts from a, each later one from what the one before left, the last leaves the compartments and ledgers of b;
-- after each, plasma lies within the margin
abbrev pub Chain : State → List Step → State → Type 0
Chain a [] b = (a.lead ≡ b.lead) × (a.ledgers ≡ b.ledgers)
Chain a (x ∷ xs) b =
    (x.before ≡ a) × (Margin x.rates x.before.lead x.uptake (plasma (leaves x).lead) × Chain (leaves x) xs b)

-- an accepted call is a whole month: its number is one more, its steps are a chain, 30 times those of a day, and their U sum to 30 T
pub record WholeMonth (steps : Files → ℕ) (m : Month) : Type 0 where
  pub number : m.after.month ≡ m.before.month + 1
  pub chain : Chain m.before (steps_of steps m) m.after
  pub count : length (steps_of steps m) ≡ days_a_month * steps m.files
  pub uptake : total_of (λ (x : Step). x.uptake) (steps_of steps m) ≡ days_a_month * daily_of m

-- accepted months: the first got a, each later one the month end before it, and each is a whole month
abbrev pub Months : (Files → ℕ) → State → List Month → Type 0
Months steps a [] = Unit {0}
Months steps a (m ∷ ms) = (m.before ≡ a) × (WholeMonth steps m × Months steps m.after ms)

-- what left by one of the exits, over the steps of months
abbrev pub left_by : (Exits → ℕ) → (Files → ℕ) → List Month → ℕ
left_by exit steps ms = total_of (λ (m : Month). total_of (λ (x : Step). exit (exits_of x)) (steps_of steps m)) ms

-- from the end a to the end b, between which the months ms were accepted: lead balances, and each ledger grows by its own exits
pub record Balanced (steps : Files → ℕ) (a b : State) (ms : List Month) : Type 0 where
  pub lead :
      burden b.lead + (left_by (λ x. x.urine) steps ms + left_by (λ x. x.faeces) steps ms + left_by (λ x. x.skin) steps ms)
      ≡ burden a.lead + total_of (λ (m : Month). days_a_month * daily_of m) ms
  pub urine : urine_ledger b ≡ urine_ledger a + left_by (λ x. x.urine) steps ms
  pub faeces : faeces_ledger b ≡ faeces_ledger a + left_by (λ x. x.faeces) steps ms
  pub skin : skin_ledger b ≡ skin_ledger a + left_by (λ x. x.skin) steps ms

-- month end i: the state a, then what each accepted call answered
abbrev pub end_at : State → List Month → ℕ → State
end_at a ms i = get_or (a ∷ map (λ (m : Month). m.after) ms) i a

-- accepted months after the end a: whole months one after the other, and every two ends balance
pub record Conserved (steps : Files → ℕ) (a : State) (ms : List Month) : Type 0 where
  pub months : Months steps a ms
  pub balance : (i j : ℕ) → i ≤ j → j ≤ length ms → Balanced steps (end_at a ms i) (end_at a ms j) (take (j - i) (drop i ms))

-- demand 3 in general: for any positive numbers of steps a day, from any state a, over every list of month calls
abbrev pub Demand3 : Type 0
Demand3 =
    (steps : Files → ℕ) → ((f : Files) → 0 < steps f) → (a : State) (calls : List Files) → Conserved steps a (accepted_months steps a calls)

-- DEMAND 3 in the owner's words: over any list of month calls after an accepted birth, at six steps a day
abbrev pub FromBirth : Type 0
FromBirth =
    (birth : Files) → (birth_of birth).refusal ≡ 0 → (calls : List Files)
    → Conserved (λ f. steps_a_day) (birth_of birth).state (accepted_months (λ f. steps_a_day) (birth_of birth).state calls)
