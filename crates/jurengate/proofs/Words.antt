-- The words of a state and the state of words undo each other.
-- Assumes nothing.
use mathlib.Core.Path.{ap₂}
use mathlib.Core.List.{List}
use Prim.Native.Nat.{ℕ}
use Rattle.numbers.specs.Choice.{tab}
use Rattle.numbers.proofs.Every.{tab-get_or}
use Rattle.jurengate.specs.Words.{compartment_count, ledger_count, state_words}
use Rattle.jurengate.specs.Laws.{WordsLaw, StateWordsLaw}

pub words_law : WordsLaw
unfolding tab
words_law words e = tab-get_or state_words words e

pub state_words_law : StateWordsLaw
unfolding tab
state_words_law a e f =
    ap₂ (λ (lead ledgers : List ℕ). record { month = a.month; lead = lead; ledgers = ledgers }) (tab-get_or compartment_count a.lead e) (tab-get_or ledger_count a.ledgers f)
