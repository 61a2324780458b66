-- The words of a state and the state of words undo each other: a state handed back as it was leaves the words as they were.
-- Assumes nothing.
use Rattle.std.specs.Prelude.{ℕ, ◌≡◌, List, length}
use Rattle.kinetics.specs.declared.State.{State}
use Rattle.jurengate.specs.Words.{compartment_count, ledger_count, state_words, words_of, state_of}

-- eleven words are the words of their state
abbrev pub WordsLaw : Type 0
WordsLaw = (words : List ℕ) → length words ≡ state_words → words_of (state_of words) ≡ words

-- a state of seven compartments and three ledgers is the state of its words
abbrev pub StateWordsLaw : Type 0
StateWordsLaw = (a : State) → length a.lead ≡ compartment_count → length a.ledgers ≡ ledger_count → state_of (words_of a) ≡ a
