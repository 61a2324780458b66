-- The numbers of the refusals (document 01, "Calls and refusal numbers"; 10 and 11 by document 02, [1]; 12 by document 02, [2]; 13 and 14 by document 02, [7]).
-- Assumes nothing.
use Rattle.std.specs.Prelude.{ℕ, Result, Ok, Err}
use Rattle.refusal.specs.declared.Refusal.{Refusal}
use Rattle.refusal.specs.declared.Refusal.TheVariants.{WrongLength, WrongListLength, WrongCheck, WrongEdition, WrongNumber, ReservedNotZero, FieldOutsideLimits, RowOutsideLimits, IntakeTooLarge, SharesOver, AmountOver, WrongRow, PlacesOver, ShareAway, NoState, LastMonthDone, BurdenTooLarge}

abbrev pub number_of : Refusal → ℕ
number_of WrongLength = 1
number_of WrongListLength = 2
number_of WrongCheck = 3
number_of WrongEdition = 4
number_of WrongNumber = 5
number_of ReservedNotZero = 6
number_of FieldOutsideLimits = 7
number_of RowOutsideLimits = 8
number_of IntakeTooLarge = 9
number_of SharesOver = 10
number_of AmountOver = 11
number_of WrongRow = 12
number_of PlacesOver = 13
number_of ShareAway = 14
number_of NoState = 20
number_of LastMonthDone = 21
number_of BurdenTooLarge = 22

-- the number that an answer carries: 0 if it is accepted
abbrev pub number_in : {A : Type 0} → Result A Refusal → ℕ
number_in (Ok _) = 0
number_in (Err refusal) = number_of refusal
