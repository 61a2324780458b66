-- `text::Line::store_first` meets its contract: the line, which is no longer than the lent bytes, stored at the start.
use Rattle.std.proofs.Common.{refl, ◌≤◌, length}
use native.Mathlib.Omega.{arith}
use Rattle.std.proofs.lemmas.List.{length-take-le}
use Rattle.text.proofs.Puts.{put_line}
use Rattle.text.proofs.Line.store_first.Goals as goal

pub returns-clause-target_after : goal.returns-clause-target_after
returns-clause-target_after g c =
    let kept = length-take-le c.self.inside.put c.self.inside.place (omega (arith, c.self.told, c.self.invariant)) in
    let fits : length c.args.self.now ≤ length c.args.target.now = rw (← c.self.view_is, c.told-target) (omega (arith, kept, c.self.invariant)) in
    (put_line refl c.store.ensures fits).1
