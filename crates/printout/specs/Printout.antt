-- The bytes that leadline prints, as a function of the bytes of its two files (document 01, "Bench figures", last paragraph; the two sums
-- that end a month's line: document 02, [6]).
-- Assumes nothing.
use Rattle.std.specs.Prelude.{ℕ, suc, cond, List, [], ◌∷◌, ◌++◌, length, ltb}
use Rattle.numbers.specs.Choice.{answer_by}
use Rattle.files.specs.Files.{Files}
use Rattle.row.specs.Row.{last_month}
use Rattle.steps.specs.Steps.{steps_a_day}
use Rattle.child.specs.Months.{MonthsRun}
use Rattle.engine.specs.Run.{run_of}
use Rattle.routes.specs.declared.RouteSums.{RouteSums}
use Rattle.routes.specs.Sums.{month_sums}
use Rattle.text.specs.Characters.{line_feed, space}
use Rattle.text.specs.Decimal.{decimal}
use Rattle.text.specs.Figure.{figure}
use Rattle.text.specs.Words.{refused_text}

-- `W` if the unrounded figure is over 30,000, else `-`
abbrev pub flag : ℕ → ℕ
flag blood = cond (ltb 30_000 blood) 87 45

-- a space and a sum, in pg
abbrev pub column : ℕ → List ℕ
column sum = space ∷ decimal sum

-- a month's line: month, figure, flag, passive sum, active sum
unfoldable pub month_line : ℕ → ℕ → RouteSums → List ℕ
month_line month blood sums =
    decimal month ++ (space ∷ (figure blood ++ (space ∷ flag blood ∷ (column sums.passive ++ (column sums.active ++ (line_feed ∷ []))))))

-- the lines of the months after m, by each month's sums
unfoldable pub month_lines : (ℕ → RouteSums) → ℕ → List ℕ → List ℕ
month_lines sums m [] = []
month_lines sums m (blood ∷ figures) = month_line (suc m) blood (sums (suc m)) ++ month_lines sums (suc m) figures

-- ` after `
abbrev pub after_text : List ℕ
after_text = 32 ∷ 97 ∷ 102 ∷ 116 ∷ 101 ∷ 114 ∷ 32 ∷ []

-- the last line of a refused run: its number, and the months done
unfoldable pub refused_line : ℕ → ℕ → List ℕ
refused_line refusal months = refused_text ++ (decimal refusal ++ (after_text ++ (decimal months ++ (line_feed ∷ []))))

-- how a printout ends: a run that was not refused has no last line
abbrev pub last_line : ℕ → ℕ → List ℕ
last_line r months = answer_by r [] (λ n. refused_line n months)

-- what is printed of a run, by each month's sums
unfoldable pub printout_of : (ℕ → RouteSums) → MonthsRun → List ℕ
printout_of sums r = month_lines sums 0 r.figures ++ last_line r.refusal (length r.figures)

-- what is printed of two files, at six steps a day
abbrev pub printout : Files → List ℕ
printout f = printout_of (month_sums f) (run_of steps_a_day f last_month)
