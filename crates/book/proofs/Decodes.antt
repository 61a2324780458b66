-- How often reading a book decodes a block: once each if all pass, else up to the first that is refused and with it; and that block's number is the book's.
-- Assumes nothing.
use mathlib.Core.Path.{◌≡◌, refl, ap, ◌∙◌}
use mathlib.Core.List.{List}
use Prim.Native.Nat.{ℕ, zero, suc, ◌+◌, ◌≤◌, ◌<◌}
use native.Mathlib.Decide.{ℕ_discrete, dec_lt}
use native.Mathlib.Omega.{arith}
use lib.ListN.{length}
use borrow.Author.Tests.{eq-eqb, ne_eqb}
use Rattle.numbers.specs.Choice.{unless}
use Rattle.numbers.proofs.Refusals.{or_else_first, or_else_none, or_else-last, first_of_none, answer_refused, answer_both}
use Rattle.block.specs.Block.{block_at}
use Rattle.book.specs.Book.{book_blocks, book_bytes, book_block_refusal, blocks_refusal, blocks_decoded, book_length_refusal, book_refusals, book_refusal, book_decodes}
use Rattle.book.specs.Laws.{RefusedAt, RefusedBlock, DecodesLaw}

module _ (book : List ℕ) where
  abbrev refusal_of : ℕ → ℕ
  refusal_of n = book_block_refusal (block_at book n) n

  -- of k blocks from block n at most k are decoded
  decoded_within : (n k : ℕ) → blocks_decoded book n k ≤ k
  unfolding blocks_decoded
  decoded_within n zero = omega arith
  decoded_within n (suc k) =
      let after = answer_both (blocks_decoded book (suc n) k) (λ r. 0) (λ (m : ℕ). m ≤ k) (decoded_within (suc n) k) (λ r. omega arith) (refusal_of n) in
      omega (arith, after)

  -- and all of them if none is refused
  all_decoded : (n k : ℕ) → blocks_refusal book n k ≡ 0 → blocks_decoded book n k ≡ k
  unfolding blocks_refusal blocks_decoded
  all_decoded n zero none = refl
  all_decoded n (suc k) none =
      let passed = or_else_none (refusal_of n) (blocks_refusal book (suc n) k) none in
      rw passed.0 (ap suc (all_decoded (suc n) k passed.1))

  -- block m is the first of them that is refused: it is the last that is decoded, and its number is answered
  first_refused : (n k m : ℕ) → n ≤ m → m < n + k → ((i : ℕ) → i < m → refusal_of i ≡ 0) → (refusal_of m ≡ 0 → ⊥)
      → (n + blocks_decoded book n k ≡ m + 1) × (blocks_refusal book n k ≡ refusal_of m)
  unfolding blocks_refusal blocks_decoded
  first_refused n zero m from to before refused = absurd (omega arith)
  first_refused n (suc k) m from to before refused =
      elim (dec_lt n m) [
        | yes h ↦
            let rest = first_refused (suc n) k m h (omega arith) before refused in
            rw (before n h) (omega (arith, rest.0), rest.1)
        | no h ↦
            let here : n ≡ m = omega arith in
            let stops = rw (← here) at refused in
            (rw (answer_refused (blocks_decoded book (suc n) k) (λ r. 0) (refusal_of n) stops) (omega arith), or_else_first (refusal_of n) _ stops ∙ ap refusal_of here)
      ]

-- a book of the right length is refused, and its blocks counted, as its blocks are
module _ (book : List ℕ) (long : length book ≡ book_bytes) where
  pub decodes_of_blocks : book_decodes book ≡ blocks_decoded book 0 book_blocks
  unfolding book_decodes unless
  decodes_of_blocks = rw (eq-eqb (length book) book_bytes long)

  pub refusal_of_blocks : book_refusal book ≡ blocks_refusal book 0 book_blocks
  unfolding book_refusal unless
  refusal_of_blocks = rw (eq-eqb (length book) book_bytes long) (or_else-last (blocks_refusal book 0 book_blocks))

pub refused_block : RefusedBlock
refused_block book long n stop =
    refusal_of_blocks book long ∙ (first_refused book 0 book_blocks n (omega arith) (omega (arith, stop.below)) stop.before stop.refused).1

pub decodes_law : DecodesLaw
unfolding book_refusal book_decodes unless
decodes_law book =
    record {
      accepted =
          λ passed.
          let none = first_of_none (book_refusals book) passed in
          rw (none 0) (all_decoded book 0 book_blocks (none 1));
      block_refused =
          λ long n stop.
          decodes_of_blocks book long ∙ omega (arith, (first_refused book 0 book_blocks n (omega arith) (omega (arith, stop.below)) stop.before stop.refused).0);
      wrong-length = λ short. rw (ne_eqb (length book) book_bytes short);
      at_most = answer_both (blocks_decoded book 0 book_blocks) (λ r. 0) (λ (m : ℕ). m ≤ 17) (decoded_within book 0 book_blocks) (λ r. omega arith) (book_length_refusal book);
    }

-- of a book's blocks none is refused, or one of them is the first
pub data Found (book : List ℕ) : Type 0 where
  none : ((n : ℕ) → n < book_blocks → book_block_refusal (block_at book n) n ≡ 0) → Found book
  first : (n : ℕ) → RefusedAt book n → Found book

module _ (book : List ℕ) where
  -- looked for from block n on, when those before it pass
  found_from : (n k : ℕ) → n + k ≡ book_blocks → ((i : ℕ) → i < n → refusal_of book i ≡ 0) → Found book
  found_from n zero all before = none (λ i h. before i (omega arith))
  found_from n (suc k) all before =
      elim (ℕ_discrete (refusal_of book n) 0) [
        | yes passed ↦
            found_from (suc n) k (omega arith)
            (λ i h.
            elim (dec_lt i n) [
              | yes earlier ↦ before i earlier
              | no here ↦ ap (refusal_of book) (omega arith) ∙ passed
            ])
        | no refused ↦ first n (record { below = omega arith; before = before; refused = refused })
      ]

  pub found : Found book
  found = found_from 0 book_blocks refl (λ i h. absurd (omega arith))
