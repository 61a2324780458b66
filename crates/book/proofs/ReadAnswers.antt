-- The book reader's ways out: each refusal beside a table of zeros, and the table of an accepted book.
-- Assumes nothing.
use mathlib.Core.Path.{◌≡◌, sym, ap, ◌∙◌}
use mathlib.Core.List.{List}
use Prim.Native.Nat.{ℕ}
use native.Mathlib.Omega.{arith}
use lib.ListN.{length, replicate}
use borrow.Author.Tests.{ne_eqb}
use Rattle.numbers.proofs.Refusals.{answer_refused}
use Rattle.numbers.specs.Choice.{unless}
use Rattle.book.specs.BookRead.{BookRead}
use Rattle.book.specs.Book.{book_bytes, table_numbers, book_refusal, book_decodes, numbers_of, blank_table, book_table}
use Rattle.book.specs.Internal.{BookDecoded}
use Rattle.book.proofs.Decodes.{decodes_of_blocks, refusal_of_blocks}

module _ (book : List ℕ) where
  -- what the reader answers, and the table that it leaves
  abbrev Reads : BookRead → List ℕ → Type 0
  Reads r table = (r.refusal ≡ book_refusal book) × ((r.decodes ≡ book_decodes book) × (table ≡ book_table book))

  -- a refusal, beside a table that was set to zeros
  blank_table_lem : (r : ℕ) {size : ℕ} {table : List ℕ} → r ≡ book_refusal book → (r ≡ 0 → ⊥) → size ≡ table_numbers → table ≡ replicate size 0 → table ≡ book_table book
  unfolding book_table blank_table
  blank_table_lem r e h full zeros =
      zeros ∙ ap (λ (n : ℕ). replicate n 0) full ∙ sym (answer_refused (numbers_of book) (λ n. blank_table) (book_refusal book) (rw e at h))

  pub refused_length : (length book ≡ book_bytes → ⊥) → {size : ℕ} {table : List ℕ} → size ≡ table_numbers → table ≡ replicate size 0
      → Reads (record { refusal = 1; decodes = 0 }) table
  unfolding book_refusal book_decodes unless
  refused_length short full zeros =
      let wrong = ne_eqb (length book) book_bytes short in
      let refusal : 1 ≡ book_refusal book = rw wrong in
      (refusal, (rw wrong, blank_table_lem 1 refusal (λ z. omega arith) full zeros))

  -- if the length is right, by what decoding the blocks answered
  module _ (long : length book ≡ book_bytes) {decoded : List ℕ} {r : BookRead} (d : BookDecoded book decoded r) where
    refusal_is : r.refusal ≡ book_refusal book
    refusal_is = d.refusal ∙ sym (refusal_of_blocks book long)

    decodes_are : r.decodes ≡ book_decodes book
    decodes_are = d.count ∙ sym (decodes_of_blocks book long)

    pub refused_block : (r.refusal ≡ 0 → ⊥) → {table : List ℕ} → table ≡ replicate (length decoded) 0 → Reads r table
    refused_block h zeros = (refusal_is, (decodes_are, blank_table_lem r.refusal refusal_is h d.long zeros))

    pub accepted_book : r.refusal ≡ 0 → Reads r decoded
    unfolding book_table
    accepted_book z = (refusal_is, (decodes_are, d.table z ∙ rw (sym refusal_is ∙ z)))
