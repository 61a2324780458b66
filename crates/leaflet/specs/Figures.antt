-- The figures of a site file, each with its least and its most (request 3).
-- Assumes nothing.
use Rattle.std.specs.Prelude.{ℕ, ◌+◌, ◌-◌, ◌*◌, cond, eqb, ltb}
use Rattle.site.specs.Fields.{ages, groups, singles_at, singles, saturation_at, limits, at}

-- ten figures have a field for each age, then come those that stand singly
abbrev pub figures : ℕ
figures = groups + singles

-- the first field of a figure
abbrev pub place_of : ℕ → ℕ
place_of figure = cond (ltb figure groups) (ages * figure) (singles_at + (figure - groups))

-- the least of a figure: 0, but for saturation's lower end
abbrev pub least_of : ℕ → ℕ
least_of figure = cond (eqb (place_of figure) (singles_at + saturation_at)) 1_000_000 0

-- the most of a figure, which the list of limits has at its fields
abbrev pub most_of : ℕ → ℕ
most_of figure = at limits (place_of figure)
