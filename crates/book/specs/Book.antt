-- The book reader: 17 blocks numbered 0 to 16, five month rows each, months 0 to 84; refusals 1, 3 to 6 and 8.
-- Assumes nothing.
use Rattle.std.specs.Prelude.{ℕ, zero, suc, ◌+◌, ◌*◌, ◌/◌, ◌%◌, List, [], ◌∷◌, length, replicate, eqb}
use Rattle.numbers.specs.Choice.{unless, or_else, first_of, answer_by, tab}
use Rattle.block.specs.declared.Form.{Form}
use Rattle.block.specs.Block.{block_bytes, field_at, fields_at, used_by, block_refusal, fields_of, block_at}
use Rattle.row.specs.Row.{numbers_a_row, rows_a_block, rows_fit}

-- blocks and bytes of a book, numbers of a block and of a book
abbrev pub book_blocks : ℕ
book_blocks = 17

abbrev pub book_bytes : ℕ
book_bytes = book_blocks * block_bytes

abbrev pub numbers_a_block : ℕ
numbers_a_block = rows_a_block * numbers_a_row

abbrev pub table_numbers : ℕ
table_numbers = book_blocks * numbers_a_block

-- block n of the book is of edition 1, its five rows of 23 fields in bytes 4 to 463
abbrev pub book_form : ℕ → Form
book_form n = record { number = n; edition = 1; used = used_by numbers_a_block }

abbrev pub block_numbers : List ℕ → List ℕ
block_numbers block = fields_of numbers_a_block block

-- why block n is refused
abbrev pub book_block_refusals : List ℕ → ℕ → List ℕ
book_block_refusals block n = block_refusal block (book_form n) ∷ unless (rows_fit (block_numbers block) 0) 8 ∷ []

unfoldable pub book_block_refusal : List ℕ → ℕ → ℕ
book_block_refusal block n = first_of (book_block_refusals block n)

-- each block in turn, k blocks from block n
unfoldable pub blocks_refusal : List ℕ → ℕ → ℕ → ℕ
blocks_refusal book n zero = 0
blocks_refusal book n (suc k) = or_else (book_block_refusal (block_at book n) n) (blocks_refusal book (suc n) k)

-- how many blocks are decoded, of k from block n on: up to the first that is refused, and with it
unfoldable pub blocks_decoded : List ℕ → ℕ → ℕ → ℕ
blocks_decoded book n zero = 0
blocks_decoded book n (suc k) = suc (answer_by (book_block_refusal (block_at book n) n) (blocks_decoded book (suc n) k) (λ r. 0))

-- 1: a wrong length
abbrev pub book_length_refusal : List ℕ → ℕ
book_length_refusal book = unless (eqb (length book) book_bytes) 1

-- why a book is refused
abbrev pub book_refusals : List ℕ → List ℕ
book_refusals book = book_length_refusal book ∷ blocks_refusal book 0 book_blocks ∷ []

unfoldable pub book_refusal : List ℕ → ℕ
book_refusal book = first_of (book_refusals book)

-- how many blocks are decoded to read a book: none of one with a wrong length
unfoldable pub book_decodes : List ℕ → ℕ
book_decodes book = answer_by (book_length_refusal book) (blocks_decoded book 0 book_blocks) (λ r. 0)

-- number j of a book stands in block j / 115, at its place j % 115; the book's 85 rows of 23 numbers
abbrev pub book_number : List ℕ → ℕ → ℕ
book_number book j = field_at (block_at book (j / numbers_a_block)) (fields_at + 4 * (j % numbers_a_block))

unfoldable pub numbers_of : List ℕ → List ℕ
numbers_of book = tab table_numbers (book_number book)

-- the table beside a refusal
unfoldable pub blank_table : List ℕ
blank_table = replicate table_numbers 0

-- the table that reading a book leaves
unfoldable pub book_table : List ℕ → List ℕ
book_table book = answer_by (book_refusal book) (numbers_of book) (λ r. blank_table)
