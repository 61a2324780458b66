-- The lines that document 01 shows, with the two sums of document 02, [6], of the definitions themselves.
-- Assumes nothing.
use Rattle.std.specs.Prelude.{◌≡◌, List, [], ◌∷◌, ℕ}
use Rattle.files.specs.Files.{files_of}
use Rattle.routes.specs.declared.RouteSums.{RouteSums}
use Rattle.printout.specs.Printout.{month_line, printout}

-- a day's sums
abbrev pub sums : ℕ → ℕ → RouteSums
sums passive active = record { passive = passive; active = active }

pub record Bench : Type 0 where
  -- 30,000 gives `30.0 -`, and 30,001 gives `30.0 W`; with the most that is passive, which is over 32 bits, `7 30.0 - 5000000000 0`,
  -- and the most that is active, `84 30.0 W 0 3571428570`
  pub below : month_line 7 30_000 (sums 5_000_000_000 0)
      ≡ 55 ∷ 32 ∷ 51 ∷ 48 ∷ 46 ∷ 48 ∷ 32 ∷ 45 ∷ 32 ∷ 53 ∷ 48 ∷ 48 ∷ 48 ∷ 48 ∷ 48 ∷ 48 ∷ 48 ∷ 48 ∷ 48 ∷ 32 ∷ 48 ∷ 10 ∷ []
  pub over : month_line 84 30_001 (sums 0 3_571_428_570)
      ≡ 56 ∷ 52 ∷ 32 ∷ 51 ∷ 48 ∷ 46 ∷ 48 ∷ 32 ∷ 87 ∷ 32 ∷ 48 ∷ 32 ∷ 51 ∷ 53 ∷ 55 ∷ 49 ∷ 52 ∷ 50 ∷ 56 ∷ 53 ∷ 55 ∷ 48 ∷ 10 ∷ []
  -- half a tenth is rounded up: 49 gives `0.0`, 50 gives `0.1`
  pub down : month_line 1 49 (sums 12 3) ≡ 49 ∷ 32 ∷ 48 ∷ 46 ∷ 48 ∷ 32 ∷ 45 ∷ 32 ∷ 49 ∷ 50 ∷ 32 ∷ 51 ∷ 10 ∷ []
  pub up : month_line 1 50 (sums 12 3) ≡ 49 ∷ 32 ∷ 48 ∷ 46 ∷ 49 ∷ 32 ∷ 45 ∷ 32 ∷ 49 ∷ 50 ∷ 32 ∷ 51 ∷ 10 ∷ []
  -- an empty book prints just `refused 1 after 0`, whatever the site file
  pub empty : (site : List ℕ) → printout (files_of site [])
      ≡ 114 ∷ 101 ∷ 102 ∷ 117 ∷ 115 ∷ 101 ∷ 100 ∷ 32 ∷ 49 ∷ 32 ∷ 97 ∷ 102 ∷ 116 ∷ 101 ∷ 114 ∷ 32 ∷ 48 ∷ 10 ∷ []
