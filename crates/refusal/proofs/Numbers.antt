-- The number of a refusal is never that of none.
-- Assumes nothing.
use mathlib.Core.Path.{◌≡◌, refl}
use mathlib.Core.Bool.{true, false}
use native.Mathlib.Omega.{arith}
use Rattle.refusal.specs.declared.Refusal.{Refusal}
use Rattle.refusal.specs.declared.Refusal.TheVariants.{WrongLength, WrongListLength, WrongCheck, WrongEdition, WrongNumber, ReservedNotZero, FieldOutsideLimits, RowOutsideLimits, IntakeTooLarge, SharesOver, AmountOver, WrongRow, PlacesOver, ShareAway, NoState, LastMonthDone, BurdenTooLarge}
use Rattle.std.proofs.Common.{Result, Ok, Err}
use Rattle.std.specs.Result.{is_err}
use Rattle.refusal.specs.Refusal.{number_of, number_in}

pub some_number : (r : Refusal) → number_of r ≡ 0 → ⊥
some_number WrongLength e = omega arith
some_number WrongListLength e = omega arith
some_number WrongCheck e = omega arith
some_number WrongEdition e = omega arith
some_number WrongNumber e = omega arith
some_number ReservedNotZero e = omega arith
some_number FieldOutsideLimits e = omega arith
some_number RowOutsideLimits e = omega arith
some_number IntakeTooLarge e = omega arith
some_number SharesOver e = omega arith
some_number AmountOver e = omega arith
some_number WrongRow e = omega arith
some_number PlacesOver e = omega arith
some_number ShareAway e = omega arith
some_number NoState e = omega arith
some_number LastMonthDone e = omega arith
some_number BurdenTooLarge e = omega arith

-- an answer has a number exactly if it is an error
pub err_number : {A : Type 0} (x : Result A Refusal) → is_err x ≡ true → number_in x ≡ 0 → ⊥
err_number (Ok a) e z = cc
err_number (Err r) e z = some_number r z

pub ok_number : {A : Type 0} (x : Result A Refusal) → is_err x ≡ false → number_in x ≡ 0
ok_number (Ok a) e = refl
ok_number (Err r) e = cc
