-- What a field says, by what the code answers.
-- Assumes nothing.
use Rattle.std.specs.Prelude.{ℕ, Option, None, Some, Result, Ok, Err}
use Rattle.figures.specs.declared.NotAFigure.{NotAFigure}
use Rattle.figures.specs.Reading.{Reading, Missing, Figure, Wrong}

-- a figure or none
abbrev pub reading_of : Result (Option ℕ) NotAFigure → Reading
reading_of (Ok None) = Missing
reading_of (Ok (Some n)) = Figure n
reading_of (Err _) = Wrong

-- a figure
abbrev pub figure_of : Result ℕ NotAFigure → Reading
figure_of (Ok n) = Figure n
figure_of (Err _) = Wrong
