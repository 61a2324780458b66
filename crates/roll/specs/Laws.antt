-- The laws of a roll.
-- Assumes nothing.
use Rattle.std.specs.Prelude.{◌≡◌, List, [], ◌∷◌, ◌++◌, ℕ, ◌+◌, ◌<◌, length}
use Rattle.lines.specs.declared.RowText.{RowText}
use Rattle.card.specs.Row.{read_kept}
use Rattle.cardsite.specs.Start.{start_of}
use Rattle.roll.specs.Words.{rows_a_group, roll_words, start_words, start_in, starts_in}
use Rattle.roll.specs.Enrol.{with_row}

-- the words of a row say what becomes of it
abbrev pub WordsLaw : Type 0
WordsLaw = (kept : RowText) → start_in (start_words (start_of (read_kept kept))) ≡ start_of (read_kept kept)

-- a row is put on the roll behind the others, which stay as they were
abbrev pub RollLaw : Type 0
RollLaw =
    (roll : List ℕ) → length roll ≡ roll_words → (n : ℕ) → n < rows_a_group → (kept : RowText)
    → starts_in (n + 1) (with_row n kept roll) ≡ starts_in n roll ++ (start_of (read_kept kept) ∷ [])
