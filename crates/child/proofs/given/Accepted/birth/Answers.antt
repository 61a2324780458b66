-- `child::given::Accepted::birth` meets its contract: refused by its burden, or the newborn child.
use Prim.Native.Nat.{min}
use mathlib.Core.Path.{◌≡◌, refl, ap₂, ◌∙◌}
use lib.ListN.{length}
use borrow.Author.Rules.{rules}
use Rattle.blood.specs.Birth.{birth_state}
use Rattle.kinetics.specs.Step.{burden}
use Rattle.child.specs.Birth.{newborn}
use Rattle.state.specs.Internal.{cap}
use Rattle.state.proofs.StateCheck.{capped_burden}
use Rattle.child.proofs.BornAnswers.{born_refused, born_accepted}
use Rattle.child.proofs.given.Accepted.birth.Goals as goal
use Rattle.child.proofs.given.Accepted.birth.Goals.{After-capped_sum-held}

-- the child that the code computes, and its burden
abbrev Computed : After-capped_sum-held → Type 0
Computed c =
    (c.birth_state-child.result ≡ newborn c.args.self.now.scenario.now c.args.self.now.table.now) × (c.capped_sum-held.result ≡ min (burden c.birth_state-child.result.lead) cap)

computed : (c : After-capped_sum-held) → Computed c
unfolding newborn
computed c =
    let lead = c.birth_state-child.result.lead in
    let seven : length lead ≡ 7 = search rules in
    (c.birth_state-child.ensures ∙ ap₂ birth_state c.row_at-row.ensures c.mother_of-mother.ensures, capped_burden lead seven c.capped_sum-held.ensures)

pub returns-then-held-gt-BURDEN_MOST : goal.returns-then-held-gt-BURDEN_MOST
returns-then-held-gt-BURDEN_MOST c =
    let child = computed (goal.at.returns-then-held-gt-BURDEN_MOST c).After-capped_sum-held in
    born_refused _ _ _ child.0 child.1 c.if-held-gt-BURDEN_MOST.true _ refl

pub returns : goal.returns
returns c =
    let child = computed (goal.at.returns c).After-capped_sum-held in
    born_accepted _ _ _ child.0 child.1 c.if-held-gt-BURDEN_MOST.false
