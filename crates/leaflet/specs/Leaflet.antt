-- The leaflet's lines (request 3): a figure of a site file with its least and its most, and a rule with its number. The words are the program's.
-- Assumes nothing.
use Rattle.std.specs.Prelude.{ℕ, ◌-◌, List, [], ◌∷◌, ◌++◌, length, replicate}
use Rattle.text.specs.Characters.{line_feed, space}
use Rattle.leaflet.specs.Figures.{least_of, most_of}
use Rattle.leaflet.specs.Grouped.{grouped}

-- bytes of the column of a figure's least
abbrev pub least_bytes : ℕ
least_bytes = 11

-- the least of a figure, and blanks up to the end of the column
abbrev pub least_column : ℕ → List ℕ
least_column figure = grouped (least_of figure) ++ replicate (least_bytes - length (grouped (least_of figure))) space

-- the line of a figure, whose label is its name, ages and unit
unfoldable pub figure_line : List ℕ → ℕ → List ℕ
figure_line label figure = label ++ (least_column figure ++ (grouped (most_of figure) ++ (line_feed ∷ [])))

-- the line of a rule
unfoldable pub rule_line : List ℕ → ℕ → List ℕ
rule_line words number = words ++ (grouped number ++ (line_feed ∷ []))
