-- For the contracts between the functions: room for numbers and for a rule's words, and that a figure's most holds at every age.
-- Assumes nothing.
use Rattle.std.specs.Prelude.{◌≡◌, ℕ, suc, ◌≤◌, ◌<◌}
use Rattle.site.specs.Fields.{limits, at}
use Rattle.leaflet.specs.Figures.{place_of, most_of}

-- the numbers that four threes of digits hold are below this
abbrev pub grouped_limit : ℕ
grouped_limit = 1_000_000_000_000

-- bytes kept for such a number: ten digits, and three times a comma and three digits
abbrev pub grouped_most : ℕ
grouped_most = 22

-- bytes that every line fits in, and of a rule's words at most, so that its line does
abbrev pub line_bytes : ℕ
line_bytes = 96

abbrev pub words_most : ℕ
words_most = 70

-- the limit of each field of a figure, from its first to the one before the next figure's first
pub record MostOf (figure most : ℕ) : Type 0 where
  pub is : most ≡ most_of figure
  pub each : (place : ℕ) → place_of figure ≤ place → place < place_of (suc figure) → at limits place ≡ most
