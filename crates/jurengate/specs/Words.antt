-- A state as eleven numbers: month, plasma, red cells, liver, kidney, other, trabecular, cortical, urine, faeces, skin.
-- Assumes nothing.
use Rattle.std.specs.Prelude.{ℕ, List, [], ◌∷◌, get_or}
use Rattle.kinetics.specs.declared.State.{State}

-- a state's compartments and ledgers; with its month they are its words
abbrev pub compartment_count : ℕ
compartment_count = 7

abbrev pub ledger_count : ℕ
ledger_count = 3

abbrev pub state_words : ℕ
state_words = 11

-- the words of a state, and the state of words
abbrev pub words_of : State → List ℕ
words_of a =
    a.month
    ∷ get_or a.lead 0 0
    ∷ get_or a.lead 1 0
    ∷ get_or a.lead 2 0
    ∷ get_or a.lead 3 0
    ∷ get_or a.lead 4 0
    ∷ get_or a.lead 5 0
    ∷ get_or a.lead 6 0
    ∷ get_or a.ledgers 0 0
    ∷ get_or a.ledgers 1 0
    ∷ get_or a.ledgers 2 0
    ∷ []

abbrev pub state_of : List ℕ → State
state_of words =
    record {
      month = get_or words 0 0;
      lead =
          get_or words 1 0
          ∷ get_or words 2 0
          ∷ get_or words 3 0
          ∷ get_or words 4 0
          ∷ get_or words 5 0
          ∷ get_or words 6 0
          ∷ get_or words 7 0
          ∷ [];
      ledgers = get_or words 8 0 ∷ get_or words 9 0 ∷ get_or words 10 0 ∷ [];
    }
