-- Lines and texts of the request, of the definitions themselves.
-- Assumes nothing.
use Rattle.std.specs.Prelude.{◌≡◌, [], ◌∷◌}
use Rattle.files.specs.Files.{Files}
use Rattle.survey.specs.RowAnswer.{Blood, Skipped, Refused}
use Rattle.cardline.specs.Cardline.{row_line, card_printout}

pub record Bench : Type 0 where
  -- 2,050 gives `2.1`, a skipped row `---`, a refused one `refused 12`
  pub blood : row_line (Blood 2_050) ≡ 50 ∷ 46 ∷ 49 ∷ 10 ∷ []
  pub skipped : row_line Skipped ≡ 45 ∷ 45 ∷ 45 ∷ 10 ∷ []
  pub refused : row_line (Refused 12) ≡ 114 ∷ 101 ∷ 102 ∷ 117 ∷ 115 ∷ 101 ∷ 100 ∷ 32 ∷ 49 ∷ 50 ∷ 10 ∷ []
  -- a text without rows prints nothing, whatever the files: no text, three headings, three headings and their line feeds
  pub no_text : (f : Files) → card_printout f [] ≡ []
  pub no_line_feed : (f : Files) → card_printout f (97 ∷ 10 ∷ 98 ∷ 10 ∷ 99 ∷ []) ≡ []
  pub no_row : (f : Files) → card_printout f (97 ∷ 10 ∷ 98 ∷ 10 ∷ 99 ∷ 10 ∷ []) ≡ []
