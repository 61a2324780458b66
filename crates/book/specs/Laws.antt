-- The laws of the rate book.
-- Assumes nothing.
use Rattle.std.specs.Prelude.{◌≡◌, true, List, ℕ, ◌+◌, ◌*◌, ◌≤◌, ◌<◌, length, get_or, take, drop}
use Rattle.block.specs.Block.{block_bytes, field_at, check_at, check_of, block_at}
use Rattle.block.specs.Writer.{written, body_of, BodyPasses}
use Rattle.row.specs.Row.{last_month, row_of, row_fits, rows_fit}
use Rattle.row.specs.Limits.{RowLimits}
use Rattle.book.specs.Book.{book_blocks, book_bytes, numbers_a_block, table_numbers, book_form, block_numbers, book_block_refusal, numbers_of, book_refusal, book_decodes, book_table}

-- each row of an accepted book is within its limits
abbrev pub RowsWithin : Type 0
RowsWithin = (book : List ℕ) → book_refusal book ≡ 0 → (month : ℕ) → month ≤ last_month → RowLimits (row_of (book_table book) month)

-- only blocks with the right check are accepted
abbrev pub RightChecks : Type 0
RightChecks =
    (book : List ℕ) → book_refusal book ≡ 0 → (n : ℕ) → n < book_blocks → field_at (block_at book n) check_at ≡ check_of (block_at book n)

-- block n of a book is the one that is refused: it does not pass, and all before it do
pub record RefusedAt (book : List ℕ) (n : ℕ) : Type 0 where
  pub below : n < book_blocks
  pub before : (i : ℕ) → i < n → book_block_refusal (block_at book i) i ≡ 0
  pub refused : book_block_refusal (block_at book n) n ≡ 0 → ⊥

-- its number is the book's
abbrev pub RefusedBlock : Type 0
RefusedBlock = (book : List ℕ) → length book ≡ book_bytes → (n : ℕ) → RefusedAt book n → book_refusal book ≡ book_block_refusal (block_at book n) n

-- HOW OFTEN A BLOCK IS DECODED to read a book: exactly 17 times if it is accepted, n + 1 times if its block n is refused, and never if its length is
-- wrong; at most 17 times in every case
pub record Counted (book : List ℕ) (count : ℕ) : Type 0 where
  pub accepted : book_refusal book ≡ 0 → count ≡ 17
  pub block_refused : length book ≡ book_bytes → (n : ℕ) → RefusedAt book n → count ≡ n + 1
  pub wrong-length : (length book ≡ book_bytes → ⊥) → count ≡ 0
  pub at_most : count ≤ 17

abbrev pub DecodesLaw : Type 0
DecodesLaw = (book : List ℕ) → Counted book (book_decodes book)

-- block n of a book is read as these 115 numbers
pub record BlockReads (book : List ℕ) (n : ℕ) (numbers : List ℕ) : Type 0 where
  pub refusal : book_block_refusal (block_at book n) n ≡ 0
  pub read : (j : ℕ) → j < numbers_a_block → get_or (numbers_of book) (numbers_a_block * n + j) 0 ≡ get_or numbers j 0

-- a body that 4 to 8 let pass, written as block n of a book, is read as its numbers
abbrev pub BodyReadBack : Type 0
BodyReadBack =
    (book body target : List ℕ) (n : ℕ) → n < book_blocks → length target ≡ block_bytes → block_at book n ≡ written body target
    → BodyPasses body (book_form n) → rows_fit (block_numbers body) 0 ≡ true → BlockReads book n (block_numbers body)

-- 115 numbers of 32 bits whose rows are within their limits, laid out, written as block n of a book and read, are these numbers
abbrev pub NumbersReadBack : Type 0
NumbersReadBack =
    (book numbers target : List ℕ) (n : ℕ) → n < book_blocks → length target ≡ block_bytes → block_at book n ≡ written (body_of (book_form n) numbers) target
    → length numbers ≡ numbers_a_block → ((k : ℕ) → get_or numbers k 0 < 4_294_967_296) → rows_fit numbers 0 ≡ true → BlockReads book n numbers

-- a book of which no block is refused is accepted
abbrev pub WholeBook : Type 0
WholeBook =
    (book : List ℕ) → length book ≡ book_bytes → ((n : ℕ) → n < book_blocks → book_block_refusal (block_at book n) n ≡ 0) → book_refusal book ≡ 0

-- the 115 of a book's numbers that stand in block n
abbrev pub block_part : List ℕ → ℕ → List ℕ
block_part numbers n = take numbers_a_block (drop (numbers_a_block * n) numbers)

-- a book is accepted and read as these numbers
pub record BookReads (book numbers : List ℕ) : Type 0 where
  pub refusal : book_refusal book ≡ 0
  pub table : book_table book ≡ numbers

-- 85 rows of 23 numbers of 32 bits, each row within its limits, laid out, written as the 17 blocks of a book and read, are these numbers
abbrev pub BookReadBack : Type 0
BookReadBack =
    (book numbers : List ℕ) (targets : ℕ → List ℕ) → length book ≡ book_bytes → length numbers ≡ table_numbers → ((k : ℕ) → get_or numbers k 0 < 4_294_967_296)
    → ((month : ℕ) → month ≤ last_month → row_fits (row_of numbers month) ≡ true) → ((n : ℕ) → n < book_blocks → length (targets n) ≡ block_bytes)
    → ((n : ℕ) → n < book_blocks → block_at book n ≡ written (body_of (book_form n) (block_part numbers n)) (targets n)) → BookReads book numbers
