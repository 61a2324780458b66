-- For the contracts between the functions: what decoding leaves. No open call's contract needs it.
-- Assumes nothing.
use Rattle.std.specs.Prelude.{ℕ, ◌≡◌, List, length}
use Rattle.numbers.specs.Parts.{placed}
use Rattle.block.specs.Block.{block_at}
use Rattle.book.specs.BookRead.{BookRead}
use Rattle.book.specs.Book.{book_blocks, numbers_a_block, table_numbers, block_numbers, book_block_refusal, blocks_refusal, blocks_decoded, numbers_of}

-- what decoding block n into a table, as its part of 115 numbers, leaves, and what decoding all blocks leaves
pub record BlockDecoded (book : List ℕ) (n : ℕ) (before after : List ℕ) (r : ℕ) : Type 0 where
  pub refusal : r ≡ book_block_refusal (block_at book n) n
  pub long : length after ≡ table_numbers
  pub table : r ≡ 0 → after ≡ placed numbers_a_block n (block_numbers (block_at book n)) before

pub record BookDecoded (book after : List ℕ) (r : BookRead) : Type 0 where
  pub refusal : r.refusal ≡ blocks_refusal book 0 book_blocks
  pub count : r.decodes ≡ blocks_decoded book 0 book_blocks
  pub long : length after ≡ table_numbers
  pub table : r.refusal ≡ 0 → after ≡ numbers_of book
