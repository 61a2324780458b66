-- `site::put::figure_from` meets its contract: the part that is filled holds the figure at each place.
use Rattle.std.proofs.Common.{ℕ, sym, ap, ◌∙◌, arith, replicate, ◌≡◌, ◌+◌, ◌-◌, length, drop}
use Rattle.std.proofs.lemmas.List.{length-replicate}
use lib.ListN.{length-drop}
use lib.Seq.{length-take-le}
use borrow.Rule.Slice.PartMut.{mid_of}
use Rattle.std.proofs.lemmas.Slice.{put_mid-paste}
use Rattle.site.proofs.PutFits.{put_from_part}
use Rattle.site.proofs.put.figure_from.Goals as goal

pub returns : goal.returns
returns c =
    let a = c.args in
    let count : length (mid_of a.from (a.from + a.count - a.from) a.fields.now) ≡ a.count =
    length-take-le (a.from + a.count - a.from) (drop a.from a.fields.now) (simp length-drop (omega (arith, c.requires, c.told-fields))) ∙ omega arith in
    let filled = c.fill.ensures.after (λ y e. e) in
    put_mid-paste a.from (a.from + a.count - a.from) a.fields.now c.fill.new.self (replicate a.count a.figure) a.count (filled ∙ ap (λ (n : ℕ). replicate n a.figure) count) (omega arith) (sym (length-replicate a.count a.figure))
    ∙ sym (put_from_part a.fields.now a.from a.figure a.count (omega (arith, c.requires, c.told-fields)))
