-- Laws of the figures' limits: the tests in their order, and what they say of each figure.
-- Assumes nothing.
use mathlib.Core.Path.{◌≡◌, refl, ap}
use mathlib.Core.Bool.{Bool, true, ◌&&◌}
use mathlib.Core.List.{List}
use Prim.Native.Nat.{ℕ, zero, suc, ◌+◌, ◌*◌, ◌≤◌, ◌<◌}
use native.Mathlib.Omega.{arith}
use lib.ListN.{length, get_or, take, drop}
use lib.Seq.{drop-cons}
use Rattle.std.specs.List.{list_all}
use lib.Dec.{leb}
use borrow.Author.Tests.{leb-true}
use Rattle.numbers.specs.Choice.{every}
use Rattle.numbers.proofs.Every.{and_left, and_right, every-at}
use Rattle.foods.specs.Names.{food_count, amount_count, local_count, vegetable, fruit, fish, game}
use Rattle.foods.specs.Figures.{leads_from, local_leads_from, share_of, most_grams, most_lead, most_share, shares_fit, all_within, amounts_fit}
use Rattle.foods.specs.Limits.{FoodsLimits}

-- the figure at a place is at most a limit
abbrev pub within : ℕ → List ℕ → ℕ → Bool
within limit f k = leb (get_or f k 0) limit

-- a test of each of n figures from a place, as a part of them
pub part_within : (limit : ℕ) (f : List ℕ) (from n : ℕ) → from + n ≤ length f
    → list_all (λ figure. leb figure limit) (take n (drop from f)) ≡ all_within limit f from n
unfolding all_within every
part_within limit f from zero room = refl
part_within limit f from (suc n) room =
    rw (drop-cons f from 0 (omega arith))
    (ap (λ (rest : Bool). within limit f from && rest) (part_within limit f (suc from) n (omega arith)))

within_at : (limit : ℕ) (f : List ℕ) (from n : ℕ) → all_within limit f from n ≡ true → (k : ℕ) → from ≤ k → k < from + n → get_or f k 0 ≤ limit
unfolding all_within
within_at limit f from n e k a b = leb-true (get_or f k 0) limit (every-at (within limit f) from n e k a b)

-- what the tests say of each figure
module _ (f : List ℕ) (fit : shares_fit f ≡ true) where
  caught_le : share_of f fish + share_of f game ≤ most_share
  unfolding shares_fit
  caught_le = leb-true _ _ (and_left (leb (share_of f fish + share_of f game) most_share) (leb (share_of f vegetable) most_share && leb (share_of f fruit) most_share) fit)

  others : leb (share_of f vegetable) most_share && leb (share_of f fruit) most_share ≡ true
  unfolding shares_fit
  others = and_right (leb (share_of f fish + share_of f game) most_share) (leb (share_of f vegetable) most_share && leb (share_of f fruit) most_share) fit

  share_le : (local : ℕ) → local < local_count → share_of f local ≤ most_share
  share_le zero h = leb-true _ _ (and_left (leb (share_of f vegetable) most_share) (leb (share_of f fruit) most_share) others)
  share_le (suc zero) h = leb-true _ _ (and_right (leb (share_of f vegetable) most_share) (leb (share_of f fruit) most_share) others)
  share_le (suc (suc zero)) h = omega (arith, caught_le)
  share_le (suc (suc (suc zero))) h = omega (arith, caught_le)
  share_le (suc (suc (suc (suc local)))) h = absurd (omega arith)

  module _ (amounts : amounts_fit f ≡ true) where
    abbrev leads_fit : Bool
    leads_fit = all_within most_lead f leads_from food_count

    abbrev local_leads_fit : Bool
    local_leads_fit = all_within most_lead f local_leads_from local_count

    grams_tested : all_within most_grams f 0 amount_count ≡ true
    unfolding amounts_fit
    grams_tested = and_left (all_within most_grams f 0 amount_count) (leads_fit && local_leads_fit) amounts

    leads_tested : leads_fit && local_leads_fit ≡ true
    unfolding amounts_fit
    leads_tested = and_right (all_within most_grams f 0 amount_count) (leads_fit && local_leads_fit) amounts

    pub fit_limits : FoodsLimits f
    fit_limits =
        record {
          its_grams = λ age food a b. within_at most_grams f 0 amount_count grams_tested (food_count * age + food) (omega arith) (omega arith);
          its_leads =
              λ food h.
              within_at most_lead f leads_from food_count (and_left leads_fit local_leads_fit leads_tested) (leads_from + food) (omega arith) (omega arith);
          each_share = share_le;
          fish_and_game = caught_le;
          local_leads =
              λ local h.
              within_at most_lead f local_leads_from local_count (and_right leads_fit local_leads_fit leads_tested) (local_leads_from + local) (omega arith) (omega arith);
        }
