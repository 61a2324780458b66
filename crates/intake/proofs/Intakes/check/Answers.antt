-- `intake::Intakes::check` meets its contract: if each of the five is at most 10^9, so is each that 9 tests.
use Rattle.std.proofs.Common.{◌≤◌, ◌<◌, ℕ, ◌∷◌, [], arith, get_or, rules}
use Rattle.intake.specs.Intake.{refusal_of}
use Rattle.numbers.specs.Choice.{unless}
use Rattle.site.specs.Fields.{at}
use borrow.Author.Tests.{le-leb}
use Rattle.intake.proofs.Intakes.check.Goals as goal

pub returns-then-all : goal.returns-then-all
unfolding refusal_of unless
returns-then-all c =
    let i = c.args.self.now in
    let each : (k : ℕ) → k < 5 → get_or (i.air ∷ at i.media 1 ∷ at i.media 3 ∷ at i.media 2 ∷ at i.media 0 ∷ []) k 0 ≤ 1_000_000_000 = search rules in
    rw (le-leb _ _ (each 0 (omega arith)), le-leb _ _ (each 1 (omega arith)), le-leb _ _ (each 2 (omega arith)), le-leb _ _ (each 3 (omega arith)), le-leb _ _ (each 4 (omega arith)))
