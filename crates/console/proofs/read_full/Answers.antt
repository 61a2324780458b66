-- What was consumed is what stands at the front of the buffer. Assumes nothing.
use Rattle.std.proofs.Common.{◌≡◌, ℕ, ◌+◌, ◌-◌, ◌≤◌, List, ◌++◌, rules, arith, length, take, slice_range, sym, ap, ◌∙◌, subst, le_refl, drop_at, length-take-le, drop}
use Rattle.std.proofs.lemmas.Slice.{take-put_mid_below}
use Rattle.std.specs.Io.KnownBytes.{Consumes}
use Rattle.std.proofs.KnownBytes.{Consumes-nil, Consumes-trans, Consumes-kept}
use Rattle.std.specs.declared.option.Option.{Option}
use borrow.Rule.Slice.PartMut.{put_mid, post_of}
use lib.Seq.{take-add, take-append-le}
use Rattle.console.proofs.read_full.Goals as goal

-- n bytes more of what a read put behind the front
consumed_more :
    (a b c : Option (List ℕ)) (from room n : ℕ) (buffer got : List ℕ) → from ≤ length buffer → n ≤ length got
    → Consumes a b (take from buffer) → Consumes b c (take n got) → Consumes a c (take (from + n) (put_mid from room buffer got))
consumed_more a b c from room n buffer got within fits before read =
    let now = put_mid from room buffer got in
    let after = post_of from room buffer in
    let same : (from + n) - from ≡ n = omega arith in
    let part : slice_range now from (from + n) ≡ take n got =
    ap (take ((from + n) - from)) (drop_at (take from buffer) (got ++ after) from (length-take-le from buffer within))
    ∙ ap (λ m. take m (got ++ after)) same ∙ take-append-le n got after fits in
    let front : take from now ≡ take from buffer = take-put_mid_below _ _ _ _ _ (le_refl _) within in
    let joined : take from buffer ++ slice_range now from (from + n) ≡ take (from + n) now =
    ap (λ l. l ++ slice_range now from (from + n)) (sym front) ∙ ap (λ m. take from now ++ take m (drop from now)) same ∙ sym (take-add from n now) in
    subst (Consumes a c) (ap (λ l. take from buffer ++ l) (sym part) ∙ joined) (Consumes-trans a b c _ _ before read)

-- none more
consumed_none :
    (a b c : Option (List ℕ)) (from room n : ℕ) (buffer got : List ℕ) → from ≤ length buffer → n ≤ length got → n ≡ 0
    → Consumes a b (take from buffer) → Consumes b c (take n got) → Consumes a c (take from (put_mid from room buffer got))
consumed_none a b c from room n buffer got within fits none before read =
    let same : from + n ≡ from = omega (arith, none) in
    subst (λ k. Consumes a c (take k (put_mid from room buffer got))) same (consumed_more a b c from room n buffer got within fits before read)

pub loop-done-init : goal.loop-done-init
loop-done-init g c = (search rules, Consumes-nil _)

pub returns-in-Ok-eq0-clause-bytes : goal.returns-in-Ok-eq0-clause-bytes
returns-in-Ok-eq0-clause-bytes g c =
    consumed_none _ _ _ _ _ _ _ _ c.loop-done.invariant.0 c.in-Ok-eq0.ensures.bound.0 c.in-Ok-eq0.field-0-test c.loop-done.invariant.1 c.in-Ok-eq0.ensures.bytes.0

pub loop-done-preserved : goal.loop-done-preserved
loop-done-preserved g c =
    (search rules, consumed_more _ _ _ _ _ _ _ _ c.loop-done.invariant.0 c.in-Ok.ensures.bound.0 c.loop-done.invariant.1 c.in-Ok.ensures.bytes.0)

pub returns-in-Err-clause-bytes : goal.returns-in-Err-clause-bytes
returns-in-Err-clause-bytes g c =
    subst (Consumes _ _) (sym (take-put_mid_below _ _ _ _ _ (le_refl _) c.loop-done.invariant.0)) (Consumes-kept _ _ _ _ c.loop-done.invariant.1 c.in-Err.ensures.bytes)

pub returns-clause-bytes : goal.returns-clause-bytes
returns-clause-bytes g c = c.loop-done.invariant.1
