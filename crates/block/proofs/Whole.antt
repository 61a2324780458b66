-- An accepted block is its fields laid out and sealed: the form and the fields determine each of its bytes.
-- Assumes nothing.
use mathlib.Core.Path.{◌≡◌, sym, ap, ap₂, ◌∙◌}
use mathlib.Core.Bool.{true}
use mathlib.Core.List.{List, [], ◌∷◌, ◌++◌, append_assoc, append-nil}
use Prim.Native.Nat.{ℕ, zero, suc, ◌+◌, ◌-◌, ◌*◌, ◌/◌, ◌%◌, ◌≤◌, ◌<◌}
use native.Mathlib.Numerals.{add-one}
use native.Mathlib.Omega.{arith}
use borrow.Author.Tests.{eqb-true}
use lib.ListN.{length, get_or, take, replicate, replicate-append-replicate}
use lib.Seq.{take-suc, take_all, get_or-take}
use Rattle.numbers.specs.Choice.{tab}
use Rattle.numbers.proofs.Refusals.{first_of_none, unless_none}
use Rattle.numbers.proofs.Every.{every-at, length-tab}
use Rattle.numbers.proofs.Sums.{sum_eq}
use Rattle.block.specs.declared.Form.{Form}
use Rattle.block.specs.Block.{byte_at, Bytes, block_bytes, word_at, field_at, number_at, edition_at, fields_at, check_at, checked_words, fields_a_block, used_by, check_of, zeros_from, block_refusals, block_refusal, numbers_from, fields_from, fields_of}
use Rattle.block.specs.Writer.{le16, le32, laid_by, layout, body_with, body_of, sealed}
use Rattle.block.proofs.BlockRefusals.{field_from, weighed, is_zero}
use Rattle.block.proofs.Sealed.{accepted_check}
use Rattle.block.proofs.Laid.{length-layout, layout-last}

-- the bytes of a word, and those of a field
module _ {a b : ℕ} (ha : a < 256) (hb : b < 256) where
  word_low : (a + 256 * b) % 256 ≡ a
  word_low = omega arith

  word_high : (a + 256 * b) / 256 % 256 ≡ b
  word_high = let q : (a + 256 * b) / 256 ≡ b = omega arith in rw q (omega arith)

module _ {a b c d : ℕ} (ha : a < 256) (hb : b < 256) (hc : c < 256) (hd : d < 256) where
  field_low : (a + 256 * b + 65536 * c + 16777216 * d) % 256 ≡ a
  field_low = omega arith

  field_second : (a + 256 * b + 65536 * c + 16777216 * d) / 256 % 256 ≡ b
  field_second = let q : (a + 256 * b + 65536 * c + 16777216 * d) / 256 ≡ b + 256 * c + 65536 * d = omega arith in rw q (omega arith)

  field_third : (a + 256 * b + 65536 * c + 16777216 * d) / 65536 % 256 ≡ c
  field_third = let q : (a + 256 * b + 65536 * c + 16777216 * d) / 65536 ≡ c + 256 * d = omega arith in rw q (omega arith)

  field_high : (a + 256 * b + 65536 * c + 16777216 * d) / 16777216 % 256 ≡ d
  field_high = let q : (a + 256 * b + 65536 * c + 16777216 * d) / 16777216 ≡ d = omega arith in rw q (omega arith)

-- two bytes more of a list
take_two : (s : List ℕ) (at : ℕ) → at + 2 ≤ length s → take (at + 2) s ≡ take at s ++ (byte_at s at ∷ byte_at s (at + 1) ∷ [])
take_two s at h =
    let end : at + 2 ≡ suc (suc at) = omega arith in
    rw add-one
    (ap (λ (n : ℕ). take n s) end
    ∙ take-suc s (suc at) 0 (omega arith)
    ∙ ap (λ (l : List ℕ). l ++ (byte_at s (suc at) ∷ [])) (take-suc s at 0 (omega arith))
    ∙ append_assoc (take at s) (byte_at s at ∷ []) (byte_at s (suc at) ∷ []))

-- zeros behind the bytes before them
take_zeros : (s : List ℕ) (from n : ℕ) → from + n ≤ length s → ((i : ℕ) → from ≤ i → i < from + n → byte_at s i ≡ 0)
    → take (from + n) s ≡ take from s ++ replicate n 0
take_zeros s from zero room zero_at =
    let end : from + 0 ≡ from = omega arith in
    ap (λ (k : ℕ). take k s) end ∙ sym (append-nil (take from s))
take_zeros s from (suc n) room zero_at =
    let end : from + suc n ≡ suc (from + n) = omega arith in
    ap (λ (k : ℕ). take k s) end
    ∙ take-suc s (from + n) 0 (omega arith)
    ∙ ap₂ (λ (l : List ℕ) (byte : ℕ). l ++ (byte ∷ []))
    (take_zeros s from n (omega arith) (λ i a b. zero_at i a (omega arith))) (zero_at (from + n) (omega arith) (omega arith))
    ∙ append_assoc (take from s) (replicate n 0) (0 ∷ [])
    ∙ ap (λ (l : List ℕ). take from s ++ l) (replicate-append-replicate {A = ℕ} n 1 0 ∙ ap (λ (k : ℕ). replicate {A = ℕ} k 0) (add-one n))

-- words and fields behind the bytes before them
module _ (s : List ℕ) (bytes : Bytes s) where
  take_word : (at : ℕ) → at + 2 ≤ length s → take (at + 2) s ≡ take at s ++ le16 (word_at s at)
  unfolding le16 word_at
  take_word at h = rw (word_low (bytes at) (bytes (at + 1)), word_high (bytes at) (bytes (at + 1))) (take_two s at h)

  le32_field : (at : ℕ) → le32 (field_at s at) ≡ byte_at s at ∷ byte_at s (at + 1) ∷ byte_at s (at + 2) ∷ byte_at s (at + 3) ∷ []
  unfolding le32 field_at
  le32_field at =
      rw (
        field_low (bytes at) (bytes (at + 1)) (bytes (at + 2)) (bytes (at + 3)),
        field_second (bytes at) (bytes (at + 1)) (bytes (at + 2)) (bytes (at + 3)),
        field_third (bytes at) (bytes (at + 1)) (bytes (at + 2)) (bytes (at + 3)),
        field_high (bytes at) (bytes (at + 1)) (bytes (at + 2)) (bytes (at + 3)),
      )

  take_field : (at : ℕ) → at + 4 ≤ length s → take (at + 4) s ≡ take at s ++ le32 (field_at s at)
  take_field at h =
      let end : at + 4 ≡ at + 2 + 2 = omega arith in
      let last : at + 3 ≡ at + 2 + 1 = omega arith in
      ap (λ (n : ℕ). take n s) end
      ∙ take_two s (at + 2) (omega arith)
      ∙ ap₂ (λ (front : List ℕ) (i : ℕ). front ++ (byte_at s (at + 2) ∷ byte_at s i ∷ [])) (take_two s at (omega arith)) (sym last)
      ∙ append_assoc (take at s) (byte_at s at ∷ byte_at s (at + 1) ∷ []) (byte_at s (at + 2) ∷ byte_at s (at + 3) ∷ [])
      ∙ ap (λ (l : List ℕ). take at s ++ l) (sym (le32_field at))

  take_fields : (from n : ℕ) → from + 4 * n ≤ length s → take (from + 4 * n) s ≡ take from s ++ layout (fields_from from n s)
  unfolding numbers_from tab laid_by
  take_fields from zero h =
      let end : from + 4 * 0 ≡ from = omega arith in
      ap (λ (k : ℕ). take k s) end ∙ sym (append-nil (take from s))
  take_fields from (suc n) h =
      let end : from + 4 * suc n ≡ from + 4 * n + 4 = omega arith in
      ap (λ (k : ℕ). take k s) end
      ∙ take_field (from + 4 * n) (omega arith)
      ∙ ap (λ (front : List ℕ). front ++ le32 (field_at s (from + 4 * n))) (take_fields from n (omega arith))
      ∙ append_assoc (take from s) (layout (fields_from from n s)) (le32 (field_at s (from + 4 * n)))
      ∙ ap (λ (l : List ℕ). take from s ++ l) (sym (layout-last (fields_from from n s) (field_at s (from + 4 * n))))

-- the check is that of the bytes before it
check_of_front : (s : List ℕ) → check_of (take check_at s) ≡ check_of s
unfolding check_of word_at
check_of_front s =
    sum_eq checked_words (weighed (take check_at s)) (weighed s)
    (λ n h.
    ap₂ (λ (a b : ℕ). (a + 256 * b) * (n + 1))
    (get_or-take check_at s (2 * n) 0 (omega arith)) (get_or-take check_at s (2 * n + 1) 0 (omega arith)))

-- what the tests of an accepted block say
module _ (s : List ℕ) (due : Form) (accepted : block_refusal s due ≡ 0) where
  none : (k : ℕ) → get_or (block_refusals s due) k 0 ≡ 0
  unfolding block_refusal
  none k = first_of_none (block_refusals s due) accepted k

  pub accepted_edition : word_at s edition_at ≡ due.edition
  accepted_edition = eqb-true _ _ (unless_none _ 4 (omega arith) (none 1))

  accepted_number : word_at s number_at ≡ due.number
  accepted_number = eqb-true _ _ (unless_none _ 5 (omega arith) (none 2))

  pub accepted_reserved : zeros_from s due.used check_at ≡ true
  accepted_reserved = unless_none _ 6 (omega arith) (none 3)

-- an accepted block of bytes, with n fields
module _ (s : List ℕ) (due : Form) (n : ℕ) (long : length s ≡ block_bytes) (bytes : Bytes s) (few : n ≤ fields_a_block) (used : due.used ≡ used_by n)
    (accepted : block_refusal s due ≡ 0) where
  reserved_zero : (i : ℕ) → used_by n ≤ i → i < check_at → byte_at s i ≡ 0
  unfolding zeros_from
  reserved_zero i a b =
      eqb-true (byte_at s i) 0
      (every-at (is_zero s) due.used (check_at - due.used) (accepted_reserved s due accepted) i (omega (arith, used)) (omega (arith, used)))

  header_is : take fields_at s ≡ le16 due.number ++ le16 due.edition
  header_is =
      take_word s bytes edition_at (omega arith)
      ∙ ap (λ (front : List ℕ). front ++ le16 (word_at s edition_at)) (take_word s bytes number_at (omega arith))
      ∙ ap₂ (λ (number edition : ℕ). le16 number ++ le16 edition) (accepted_number s due accepted) (accepted_edition s due accepted)

  front_is : take check_at s ≡ body_of due (fields_of n s)
  unfolding body_with numbers_from
  front_is =
      let fields : List ℕ = fields_of n s in
      let many : length fields ≡ n = length-tab n (field_from fields_at s) in
      let end : check_at ≡ used_by n + (check_at - used_by n) = omega arith in
      let reserved : check_at - used_by n ≡ check_at - (fields_at + length (layout fields)) = omega (arith, many, length-layout fields) in
      ap (λ (k : ℕ). take k s) end
      ∙ take_zeros s (used_by n) (check_at - used_by n) (omega arith) (λ i a b. reserved_zero i a (omega arith))
      ∙ ap₂ (λ (front : List ℕ) (k : ℕ). front ++ replicate {A = ℕ} k 0)
      (take_fields s bytes fields_at n (omega arith) ∙ ap (λ (header : List ℕ). header ++ layout fields) header_is) reserved
      ∙ append_assoc (le16 due.number ++ le16 due.edition) (layout fields) _
      ∙ append_assoc (le16 due.number) (le16 due.edition) _

  pub accepted_is : s ≡ sealed (body_of due (fields_of n s))
  unfolding sealed
  accepted_is =
      let check : field_at s check_at ≡ check_of (body_of due (fields_of n s)) =
      accepted_check s due accepted ∙ sym (check_of_front s) ∙ ap check_of front_is in
      sym (take_all block_bytes s (omega arith))
      ∙ take_field s bytes check_at (omega arith)
      ∙ ap₂ (λ (front : List ℕ) (check : ℕ). front ++ le32 check) front_is check

-- accepted blocks of one form that have the same fields are the same
pub accepted_same : (s t : List ℕ) (due : Form) (n : ℕ) → length s ≡ block_bytes → length t ≡ block_bytes → Bytes s → Bytes t → n ≤ fields_a_block
    → due.used ≡ used_by n → block_refusal s due ≡ 0 → block_refusal t due ≡ 0 → fields_of n s ≡ fields_of n t → s ≡ t
accepted_same s t due n s_long t_long s_bytes t_bytes few used s_accepted t_accepted same =
    accepted_is s due n s_long s_bytes few used s_accepted
    ∙ ap (λ (fields : List ℕ). sealed (body_of due fields)) same
    ∙ sym (accepted_is t due n t_long t_bytes few used t_accepted)
