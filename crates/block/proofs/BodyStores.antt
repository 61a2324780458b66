-- Words and fields stored one after the other over zeros are the body that they are laid out in.
-- Assumes nothing.
use mathlib.Core.Path.{◌≡◌, refl, sym, ap, ap₂, ◌∙◌}
use mathlib.Core.List.{List, [], ◌∷◌, ◌++◌, append_assoc}
use Prim.Native.Nat.{ℕ, suc, ◌+◌, ◌-◌, ◌*◌, ◌≤◌, ◌<◌}
use native.Mathlib.Nat.{add-zero}
use native.Mathlib.Numerals.{add-one}
use native.Mathlib.Omega.{arith}
use lib.ListN.{length, get_or, take, replicate, set, length-append, length-replicate, replicate-append-replicate}
use lib.Seq.{sets, take-suc, take_all, length-take-le}
use Rattle.block.specs.declared.Form.{Form}
use Rattle.block.specs.Block.{number_at, edition_at, fields_at, check_at, fields_a_block}
use Rattle.block.specs.Writer.{le16, le32, laid_by, layout, body_with, body_of}
use Rattle.block.proofs.Writer.{sets_over}
use Rattle.block.proofs.Laid.{length-layout, layout_append, layout-last}

-- b stored behind a is both stored at once
sets_append : (l : List ℕ) (at : ℕ) (a b : List ℕ) → sets (sets l at a) (at + length a) b ≡ sets l at (a ++ b)
sets_append l at [] b = ap (λ (k : ℕ). sets l k b) (add-zero at)
sets_append l at (x ∷ a) b =
    let behind : at + suc (length a) ≡ suc at + length a = omega arith in
    ap (λ (k : ℕ). sets (sets (set l at x) (suc at) a) k b) behind ∙ sets_append (set l at x) (suc at) a b

-- the first k fields are stored over what the target was at the start
pub record Stored (fields start target : List ℕ) (at k : ℕ) : Type 0 where
  pub reach : k ≤ length fields
  pub stores : target ≡ sets start at (layout (take k fields))

pub stored_none : (fields start : List ℕ) (at : ℕ) → Stored fields start start at 0
unfolding laid_by
stored_none fields start at = record { reach = omega arith; stores = refl }

module _ {fields start target : List ℕ} {at k : ℕ} (s : Stored fields start target at k) where
  pub stored_next : {after : List ℕ} → k < length fields → after ≡ sets target (at + 4 * k) (le32 (get_or fields k 0)) → Stored fields start after at (k + 1)
  stored_next {after} h e =
      let done : List ℕ = layout (take k fields) in
      let next : List ℕ = le32 (get_or fields k 0) in
      let more : layout (take (k + 1) fields) ≡ done ++ next =
      ap (λ (n : ℕ). layout (take n fields)) (add-one k)
      ∙ ap layout (take-suc fields k 0 h)
      ∙ layout-last (take k fields) (get_or fields k 0) in
      let behind : at + 4 * k ≡ at + length done = omega (arith, length-layout (take k fields), length-take-le k fields s.reach) in
      record {
        reach = omega arith;
        stores =
            e
            ∙ ap₂ (λ (t : List ℕ) (n : ℕ). sets t n next) s.stores behind
            ∙ sets_append start at done next
            ∙ ap (sets start at) (sym more);
      }

  pub stored_all : length fields ≤ k → target ≡ sets start at (layout fields)
  stored_all h = s.stores ∙ ap (λ (l : List ℕ). sets start at (layout l)) (take_all k fields h)

-- a header and fields stored over zeros
module _ (form : Form) (fields : List ℕ) (few : length fields ≤ fields_a_block) where
  stored : List ℕ
  stored = (le16 form.number ++ le16 form.edition) ++ layout fields

  length-stored : length stored ≡ fields_at + length (layout fields)
  unfolding stored le16
  length-stored = length-append (le16 form.number ++ le16 form.edition) (layout fields)

  over_zeros : sets (replicate check_at 0) number_at stored ≡ body_of form fields
  unfolding body_with stored
  over_zeros =
      let rest : ℕ = check_at - (fields_at + length (layout fields)) in
      let room : check_at ≡ length stored + rest = omega (arith, length-stored, length-layout fields) in
      ap (λ (n : ℕ). sets (replicate n 0) number_at stored) room
      ∙ ap (λ (z : List ℕ). sets z number_at stored) (sym (replicate-append-replicate {A = ℕ} (length stored) rest 0))
      ∙ sets_over [] (replicate (length stored) 0) (replicate rest 0) stored 0 refl (length-replicate {A = ℕ} (length stored) 0)
      ∙ append_assoc (le16 form.number ++ le16 form.edition) (layout fields) (replicate rest 0)
      ∙ append_assoc (le16 form.number) (le16 form.edition) (layout fields ++ replicate rest 0)

  pub stored_body : {a b c : List ℕ} → a ≡ sets (replicate check_at 0) number_at (le16 form.number) → b ≡ sets a edition_at (le16 form.edition)
      → c ≡ sets b fields_at (layout fields) → c ≡ body_of form fields
  unfolding le16 stored
  stored_body ha hb hc =
      let zeros : List ℕ = replicate check_at 0 in
      hc
      ∙ ap (λ (t : List ℕ). sets t fields_at (layout fields))
      (hb ∙ ap (λ (t : List ℕ). sets t edition_at (le16 form.edition)) ha ∙ sets_append zeros number_at (le16 form.number) (le16 form.edition))
      ∙ sets_append zeros number_at (le16 form.number ++ le16 form.edition) (layout fields)
      ∙ over_zeros

-- and more fields stored behind those of a body
module _ (form : Form) (fields more : List ℕ) (room : length fields + length more ≤ fields_a_block) where
  few : length fields ≤ fields_a_block
  few = omega (arith, room)

  all_few : length (fields ++ more) ≤ fields_a_block
  all_few = omega (arith, room, length-append fields more)

  all_stored : stored form fields few ++ layout more ≡ stored form (fields ++ more) all_few
  unfolding stored
  all_stored =
      append_assoc (le16 form.number ++ le16 form.edition) (layout fields) (layout more)
      ∙ ap (λ (l : List ℕ). (le16 form.number ++ le16 form.edition) ++ l) (sym (layout_append fields more))

  pub more_stored : {body after : List ℕ} → body ≡ body_of form fields → after ≡ sets body (fields_at + 4 * length fields) (layout more)
      → after ≡ body_of form (fields ++ more)
  more_stored hb ha =
      let zeros : List ℕ = replicate check_at 0 in
      let behind : fields_at + 4 * length fields ≡ number_at + length (stored form fields few) =
      omega (arith, length-stored form fields few, length-layout fields) in
      ha
      ∙ ap₂ (λ (t : List ℕ) (n : ℕ). sets t n (layout more)) (hb ∙ sym (over_zeros form fields few)) behind
      ∙ sets_append zeros number_at (stored form fields few) (layout more)
      ∙ ap (sets zeros number_at) all_stored
      ∙ over_zeros form (fields ++ more) all_few
