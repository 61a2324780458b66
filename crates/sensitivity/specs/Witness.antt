-- The bounds are reached: days that lose 4 pg for 1 pg more, a day that gains all of h, and a passive sum of 5 × 10^9.
-- Assumes nothing.
use Rattle.std.specs.Prelude.{◌≡◌, List, [], ◌∷◌, ℕ, ◌+◌}
use Rattle.numbers.specs.Sums.{sum_to}
use Rattle.site.specs.Fields.{at}
use Rattle.uptake.specs.Media.{passive_from, day_from}
use Rattle.uptake.specs.Laws.{routes_limit}

-- T of five q, each with the same passive percentage, with no air
abbrev pub day_of : List ℕ → ℕ → ℕ → ℕ
day_of q percent sat = day_from 5 (at q) (λ medium. percent) sat 0

pub record Reached : Type 0 where
  -- no passive part, SAT 40,000, the least of accepted files: the other four lose 1 pg each, whichever medium rises
  pub diet : day_of (0 ∷ 10_000 ∷ 10_000 ∷ 10_000 ∷ 10_000 ∷ []) 0 40_000 ≡ day_of (1 ∷ 10_000 ∷ 10_000 ∷ 10_000 ∷ 10_000 ∷ []) 0 40_000 + 4
  pub water : day_of (10_000 ∷ 0 ∷ 10_000 ∷ 10_000 ∷ 10_000 ∷ []) 0 40_000 ≡ day_of (10_000 ∷ 1 ∷ 10_000 ∷ 10_000 ∷ 10_000 ∷ []) 0 40_000 + 4
  pub dust : day_of (10_000 ∷ 10_000 ∷ 0 ∷ 10_000 ∷ 10_000 ∷ []) 0 40_000 ≡ day_of (10_000 ∷ 10_000 ∷ 1 ∷ 10_000 ∷ 10_000 ∷ []) 0 40_000 + 4
  pub soil : day_of (10_000 ∷ 10_000 ∷ 10_000 ∷ 0 ∷ 10_000 ∷ []) 0 40_000 ≡ day_of (10_000 ∷ 10_000 ∷ 10_000 ∷ 1 ∷ 10_000 ∷ []) 0 40_000 + 4
  pub alternate : day_of (10_000 ∷ 10_000 ∷ 10_000 ∷ 10_000 ∷ 0 ∷ []) 0 40_000 ≡ day_of (10_000 ∷ 10_000 ∷ 10_000 ∷ 10_000 ∷ 1 ∷ []) 0 40_000 + 4
  -- all passive: a rise of 10^9 is gained
  pub gain : day_of (1_000_000_000 ∷ 0 ∷ 0 ∷ 0 ∷ 0 ∷ []) 100 40_000 ≡ day_of (0 ∷ 0 ∷ 0 ∷ 0 ∷ 0 ∷ []) 100 40_000 + 1_000_000_000
  -- five q of 10^9, all passive: the sum is over 32 bits
  pub passive : sum_to 5 (passive_from (λ medium. 1_000_000_000) (λ medium. 100)) ≡ routes_limit
