-- Where no share is above 0, a child has the same birth, months and course without the figures of the places.
-- Assumes nothing.
use mathlib.Core.Path.{◌≡◌, refl}
use mathlib.Core.List.{List}
use Prim.Native.Nat.{ℕ, zero, suc}
use Rattle.site.specs.declared.Scenario.{Scenario}
use Rattle.site.specs.Limits.{AtHome}
use Rattle.site.specs.Scenario.{without_places}
use Rattle.uptake.specs.Age.{age_of}
use Rattle.kinetics.specs.declared.State.{State}
use Rattle.child.specs.Answers.{Course}
use Rattle.child.specs.Birth.{newborn, newborn_refusal}
use Rattle.child.specs.Month.{month_after, month_shares, child_refusal, month_last, child_month}
use Rattle.child.specs.Course.{next_month, course_at}
use Rattle.converted.proofs.SameUptake.{same_nine, same_uptake}

module _ (p : Scenario) (table : List ℕ) where
  -- birth reads the mother's figure alone
  pub same_newborn : newborn (without_places p) table ≡ newborn p table
  unfolding newborn
  same_newborn = refl

  pub same_newborn_refusal : newborn_refusal (without_places p) table ≡ newborn_refusal p table
  unfolding newborn_refusal
  same_newborn_refusal = rw same_newborn refl

  module _ (home : AtHome p.dust_places) (s : ℕ) where
    same_shares : (m : ℕ) → month_shares s (without_places p) table m ≡ month_shares s p table m
    unfolding month_shares
    same_shares m = rw (same_uptake p home table m) refl

    module _ (a : State) where
      pub same_child_refusal : child_refusal s a (without_places p) table ≡ child_refusal s a p table
      unfolding child_refusal
      same_child_refusal = rw (same_nine p home (age_of (month_after a)), same_shares (month_after a)) refl

      pub same_last : month_last s a (without_places p) table ≡ month_last s a p table
      unfolding month_last
      same_last = rw (same_shares (month_after a)) refl

      same_child_month : child_month s a (without_places p) table ≡ child_month s a p table
      unfolding child_month
      same_child_month = rw (same_child_refusal, same_last) refl

    same_next : (c : Course) → next_month s (without_places p) table c ≡ next_month s p table c
    unfolding next_month
    same_next c = rw (same_child_month c.state) refl

    pub same_course : (m : ℕ) → course_at s (without_places p) table m ≡ course_at s p table m
    unfolding course_at
    same_course zero = rw (same_newborn_refusal, same_newborn) refl
    same_course (suc m) = rw (same_course m) (same_next (course_at s p table m))
