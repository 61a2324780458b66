-- An array that `from_fn` makes is the list of what its closure gives at each number.
-- Assumes nothing.
use mathlib.Core.Path.{◌≡◌, refl, sym, ◌∙◌}
use mathlib.Core.List.{List}
use Prim.Native.Nat.{ℕ, zero, suc, ◌+◌, ◌≤◌, ◌<◌}
use native.Mathlib.Decide.{dec_lt}
use native.Mathlib.Omega.{arith}
use lib.ListN.{get_or}
use denote.Param.Members.{Mut, Called}
use Rattle.std.specs.Array.{IsFromFnResult, IsFromFnResultFrom}
use Rattle.numbers.specs.Choice.{tab}
use Rattle.numbers.proofs.Every.{tab_is}

-- a call at each number below n gives h's value there, and leaves the closure f as it was
module _ {F : Type 0} (g : Mut F (ℕ × Unit {0}) ℕ) (h : ℕ → ℕ) (n : ℕ) (f : F) (call : (i y : ℕ) (q : F) → i < n → Called g f (i, tt) y q → (q ≡ f) × (y ≡ h i)) where
  at_each : (ys : List ℕ) (i m : ℕ) (p : F) → p ≡ f → i + m ≤ n → IsFromFnResultFrom g p ys i m → (k : ℕ) → i ≤ k → k < i + m → get_or ys k 0 ≡ h k
  at_each ys i zero p same room e k a b = absurd (omega arith)
  at_each ys i (suc m) p same room e k a b =
      let called = rw same at (e.3) in
      let here = call i e.1 e.0 (omega arith) called in
      elim (dec_lt i k) [
        | yes later ↦ at_each ys (i + 1) m e.0 here.0 (omega arith) e.4 k (omega arith) (omega arith)
        | no now ↦ let at : k ≡ i = omega arith in rw at (e.2.1 0 ∙ here.1)
      ]

  pub from_fn_is : {ys : List ℕ} → IsFromFnResult g f ys n → ys ≡ tab n h
  from_fn_is {ys} made =
      sym (tab_is n h ys made.long (λ k l. sym (at_each ys 0 n f refl (omega arith) made.each k (omega arith) (omega arith))))
