-- The bytes up to a place, but for the first of them, are zero where `zeros_from` says so.
-- Assumes nothing.
use mathlib.Core.Path.{◌≡◌, refl, sym, ap, ◌∙◌}
use mathlib.Core.Bool.{Bool, ◌&&◌}
use mathlib.Core.List.{List}
use Prim.Native.Nat.{ℕ, zero, suc, ◌-◌, ◌≤◌}
use native.Mathlib.Omega.{arith}
use lib.Dec.{eqb}
use lib.ListN.{length, take, drop}
use lib.Seq.{drop-cons}
use Rattle.std.specs.List.{list_all}
use Rattle.std.proofs.lemmas.Slice.{between_is}
use Rattle.numbers.specs.Choice.{every}
use Rattle.block.specs.Block.{zeros_from}
use Rattle.block.proofs.BlockRefusals.{is_zero}

module _ (s : List ℕ) (to : ℕ) (room : to ≤ length s) where
  -- the n bytes from a place up to `to`
  zeros_part : (from n : ℕ) → to - from ≡ n → list_all (λ byte. eqb byte 0) (take n (drop from s)) ≡ every (is_zero s) from n
  unfolding every
  zeros_part from zero e = refl
  zeros_part from (suc n) e =
      rw (drop-cons s from 0 (omega arith))
      (ap (λ (rest : Bool). is_zero s from && rest) (zeros_part (suc from) n (omega arith)))

  pub zeros_skipped : (from : ℕ) → list_all (λ byte. eqb byte 0) (drop from (take to s)) ≡ zeros_from s from to
  unfolding zeros_from
  zeros_skipped from = ap (list_all (λ byte. eqb byte 0)) (sym (between_is s from to)) ∙ zeros_part from (to - from) refl
