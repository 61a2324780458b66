-- The 128 figures of a foods block, in a row in the block's order, and their limits (document 02, [1]).
-- Assumes nothing.
use Rattle.std.specs.Prelude.{ℕ, ◌+◌, ◌*◌, Bool, ◌&&◌, List, get_or, leb}
use Rattle.numbers.specs.Choice.{every}
use Rattle.foods.specs.Names.{food_count, amount_count, vegetable, fruit, fish, game, local_count}

-- behind the grams stand the leads, the shares of local foods and their leads
abbrev pub leads_from : ℕ  -- 105
leads_from = amount_count

abbrev pub shares_from : ℕ  -- 120
shares_from = leads_from + food_count

abbrev pub local_leads_from : ℕ  -- 124
local_leads_from = shares_from + local_count

-- the grams of a food a day at an age from 0 to 6: fifteen for each age
abbrev pub grams_at : List ℕ → ℕ → ℕ → ℕ
grams_at f age food = get_or f (food_count * age + food) 0

-- a food's lead, pg/g
abbrev pub lead_of : List ℕ → ℕ → ℕ
lead_of f food = get_or f (leads_from + food) 0

-- the share that a local food takes of others, in hundredths, and its lead, pg/g
abbrev pub share_of : List ℕ → ℕ → ℕ
share_of f local = get_or f (shares_from + local) 0

abbrev pub local_lead_of : List ℕ → ℕ → ℕ
local_lead_of f local = get_or f (local_leads_from + local) 0

-- the limits: of an amount, g/day, of a lead, pg/g, and of a share, in hundredths
abbrev pub most_grams : ℕ
most_grams = 10_000

abbrev pub most_lead : ℕ
most_lead = 1_000_000

abbrev pub most_share : ℕ
most_share = 100

-- no share takes more than there is, else 10: fish and game take it together
unfoldable pub shares_fit : List ℕ → Bool
shares_fit f = leb (share_of f fish + share_of f game) most_share && (leb (share_of f vegetable) most_share && leb (share_of f fruit) most_share)

-- each of n figures from a place is at most a limit
unfoldable pub all_within : ℕ → List ℕ → ℕ → ℕ → Bool
all_within limit f from n = every (λ (k : ℕ). leb (get_or f k 0) limit) from n

-- each amount and each lead is within its limit, else 11
unfoldable pub amounts_fit : List ℕ → Bool
amounts_fit f = all_within most_grams f 0 amount_count && (all_within most_lead f leads_from food_count && all_within most_lead f local_leads_from local_count)
