-- The witness with zeros in place of a block is refused at that block: its edition is 0.
-- Assumes nothing.
use Prim.Native.Nat.{ℕ, ◌<◌}
use mathlib.Core.Path.{◌≡◌, refl, sym, ap, ◌∙◌}
use mathlib.Core.List.{List}
use native.Mathlib.Omega.{arith}
use borrow.Author.Tests.{eq-eqb, ne_eqb}
use lib.ListN.{length, replicate, length-replicate}
use Rattle.numbers.specs.Choice.{unless}
use Rattle.numbers.proofs.Refusals.{first_of_none}
use Rattle.block.specs.Block.{word_at, block_bytes, block_refusals, block_refusal, block_at}
use Rattle.book.specs.Book.{book_blocks, book_bytes, book_form, book_block_refusals, book_block_refusal}
use Rattle.book.proofs.RowsWithin.{block_passed}
use Rattle.files.specs.Files.{before_book_refusal}
use Rattle.conservation.proofs.Witness.{block_long, book_long, block_of_book, site_long, something_accepted}
use Rattle.conservation.specs.Witness.{witness_block, witness_site, book_of, witness_book, wiped_block, wiped_files, SomethingRefused}

-- zeros are no block of edition 1
zeros_refused : (n : ℕ) → book_block_refusal (replicate block_bytes 0) n ≡ 0 → ⊥
unfolding book_block_refusal block_refusal word_at unless
zeros_refused n none =
    let header = first_of_none (book_block_refusals (replicate block_bytes 0) n) none 0 in
    let edition : ◌≡◌ {A = ℕ} 4 0 = first_of_none (block_refusals (replicate block_bytes 0) (book_form n)) header 1 in
    omega arith

module _ (n : ℕ) (below : n < book_blocks) where
  -- block n, and each of the others
  wiped_here : block_at (book_of (wiped_block n)) n ≡ replicate block_bytes 0
  wiped_here =
      let here : wiped_block n n ≡ replicate block_bytes 0 = rw (eq-eqb n n refl) in
      block_of_book (wiped_block n) n below (ap length here ∙ length-replicate {A = ℕ} block_bytes 0) ∙ here

  kept : (i : ℕ) → i < book_blocks → (i ≡ n → ⊥) → block_at (book_of (wiped_block n)) i ≡ block_at witness_book i
  unfolding witness_book
  kept i h other =
      let same : wiped_block n i ≡ witness_block i = rw (ne_eqb i n other) in
      block_of_book (wiped_block n) i h (ap length same ∙ block_long i h) ∙ same ∙ sym (block_of_book witness_block i h (block_long i h))

  none_before : before_book_refusal (wiped_files n) ≡ 0
  unfolding before_book_refusal unless
  none_before = rw (eq-eqb (length witness_site) block_bytes site_long, eq-eqb (length (book_of (wiped_block n))) book_bytes (book_long (wiped_block n)), something_accepted.site)

pub something_refused : SomethingRefused
something_refused n below =
    record {
      none_before = none_before n below;
      block =
          record {
            below = omega arith;
            before =
                λ i h. ap (λ (block : List ℕ). book_block_refusal block i) (kept n below i (omega arith) (λ e. omega arith)) ∙ block_passed witness_book something_accepted.book i (omega arith);
            refused = λ none. zeros_refused n (ap (λ (block : List ℕ). book_block_refusal block n) (sym (wiped_here n below)) ∙ none);
          };
    }
