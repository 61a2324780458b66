-- `uptake::absorbable::Absorbable::active` meets its contract: q and A are within their bounds.
use native.Mathlib.Omega.{arith}
use Rattle.uptake.proofs.Absorbed.{stored_most, stored_total_most}
use Rattle.uptake.proofs.absorbable.Absorbable.active.Goals as goal

pub active_part-requires : goal.active_part-requires
active_part-requires c =
    let q = c.args.self.now in
    (omega (arith, stored_most q c.args.medium c.requires.within), c.requires.saturation.0, c.requires.saturation.1, stored_total_most q)
