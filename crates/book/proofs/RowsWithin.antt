-- The blocks of an accepted book pass, and its rows are within their limits.
-- Assumes nothing.
use mathlib.Core.Path.{◌≡◌, refl, sym, ap, ap₂, ◌∙◌}
use mathlib.Core.Bool.{true}
use mathlib.Core.List.{List}
use Prim.Native.Nat.{ℕ, zero, suc, ◌+◌, ◌*◌, ◌/◌, ◌%◌, ◌≤◌, ◌<◌}
use native.Mathlib.Decide.{dec_lt}
use native.Mathlib.Omega.{arith}
use lib.ListN.{get_or}
use Rattle.numbers.proofs.Every.{every-at, get_or-tab}
use Rattle.numbers.proofs.Refusals.{or_else_none, first_of_none, unless_none, OfInput, unless_of_input, or_else_of_input, first_of_of_input}
use Rattle.block.specs.Block.{block_at, numbers_from}
use Rattle.block.proofs.BlockRefusals.{field, block_of_input}
use Rattle.block.proofs.Sealed.{accepted_check}
use Rattle.row.specs.Row.{rows_a_block, row_of, row_fits, rows_fit}
use Rattle.row.proofs.RowWithin.{row_within}
use Rattle.row.proofs.RowTests.{month_fits}
use Rattle.book.specs.Book.{book_blocks, numbers_a_block, table_numbers, book_form, block_numbers, book_block_refusals, book_block_refusal, blocks_refusal, book_refusals, book_refusal, book_number, numbers_of, book_table}
use Rattle.book.specs.Laws.{RowsWithin, RightChecks, WholeBook}
use Rattle.book.proofs.Decode.{number_in_block, row_in_block}
use Rattle.book.proofs.Decodes.{refusal_of_blocks}

-- k blocks from block n pass if none of them is refused, and are not refused if each passes
blocks_pass : (book : List ℕ) (n k : ℕ) → blocks_refusal book n k ≡ 0 → (i : ℕ) → n ≤ i → i < n + k → book_block_refusal (block_at book i) i ≡ 0
unfolding blocks_refusal
blocks_pass book n zero e i a b = absurd (omega arith)
blocks_pass book n (suc k) e i a b =
    let p = or_else_none (book_block_refusal (block_at book n) n) (blocks_refusal book (suc n) k) e in
    elim (dec_lt n i) [
      | yes h ↦ blocks_pass book (suc n) k p.1 i h (omega arith)
      | no h ↦
          let same : i ≡ n = omega arith in
          ap (λ (j : ℕ). book_block_refusal (block_at book j) j) same ∙ p.0
    ]

blocks_none : (book : List ℕ) (n k : ℕ) → ((i : ℕ) → n ≤ i → i < n + k → book_block_refusal (block_at book i) i ≡ 0) → blocks_refusal book n k ≡ 0
unfolding blocks_refusal
blocks_none book n zero h = refl
blocks_none book n (suc k) h =
    rw (h n (omega arith) (omega arith)) (blocks_none book (suc n) k (λ i a b. h i (omega arith) (omega arith)))

pub whole_book : WholeBook
whole_book book long h = refusal_of_blocks book long ∙ blocks_none book 0 book_blocks (λ i a b. h i (omega arith))

-- the numbers of block n in the book's table
pub number_read : (book : List ℕ) (n j : ℕ) → n < book_blocks → j < numbers_a_block → get_or (numbers_of book) (numbers_a_block * n + j) 0 ≡ get_or (block_numbers (block_at book n)) j 0
unfolding numbers_of numbers_from
number_read book n j hn hj =
    get_or-tab table_numbers (book_number book) (numbers_a_block * n + j) (omega arith) ∙ number_in_block book n j hj ∙ sym (get_or-tab numbers_a_block (field (block_at book n)) j hj)

module _ (book : List ℕ) (passed : book_refusal book ≡ 0) where
  pub block_passed : (n : ℕ) → n < book_blocks → book_block_refusal (block_at book n) n ≡ 0
  unfolding book_refusal
  block_passed n h =
      blocks_pass book 0 book_blocks (first_of_none (book_refusals book) passed 1) n (omega arith) (omega arith)

  -- the table that an accepted book leaves
  pub accepted_numbers : book_table book ≡ numbers_of book
  unfolding book_table
  accepted_numbers = rw passed

  module _ (n : ℕ) (h : n < book_blocks) where
    abbrev block : List ℕ
    block = block_at book n

    none : (k : ℕ) → get_or (book_block_refusals block n) k 0 ≡ 0
    unfolding book_block_refusal
    none = first_of_none (book_block_refusals block n) (block_passed n h)

    rows_passed : (r : ℕ) → r < rows_a_block → row_fits (row_of (block_numbers block) r) ≡ true
    unfolding rows_fit
    rows_passed r l =
        every-at (month_fits (block_numbers block)) 0 rows_a_block (unless_none _ 8 (omega arith) (none 1)) r (omega arith) (omega arith)

pub rows_within : RowsWithin
rows_within book passed month h =
    let n = month / rows_a_block in
    let r = month % rows_a_block in
    let split : month ≡ rows_a_block * (month / rows_a_block) + month % rows_a_block = omega arith in
    let below : month / rows_a_block < book_blocks = omega arith in
    let same : row_of (book_table book) month ≡ row_of (block_numbers (block_at book n)) r =
    ap₂ row_of (accepted_numbers book passed) split
    ∙ row_in_block n (numbers_of book) (block_numbers (block_at book n)) (λ j. number_read book n j below) r (omega arith) in
    rw same (row_within (row_of (block_numbers (block_at book n)) r) (rows_passed book passed n below r (omega arith)))

pub right_checks : RightChecks
right_checks book passed n h = accepted_check (block_at book n) (book_form n) (none book passed n h 0)

-- a book's refusals are from the input
book_block_of_input : (block : List ℕ) (n : ℕ) → OfInput (book_block_refusal block n)
unfolding book_block_refusal
book_block_of_input block n =
    first_of_of_input (book_block_refusals block n) (block_of_input block (book_form n), (unless_of_input _ 8 (omega arith), tt))

blocks_of_input : (book : List ℕ) (n k : ℕ) → OfInput (blocks_refusal book n k)
unfolding blocks_refusal
blocks_of_input book n zero = omega arith
blocks_of_input book n (suc k) =
    or_else_of_input (book_block_refusal (block_at book n) n) _ (book_block_of_input (block_at book n) n) (blocks_of_input book (suc n) k)

pub book_of_input : (book : List ℕ) → OfInput (book_refusal book)
unfolding book_refusal
book_of_input book = first_of_of_input (book_refusals book) (unless_of_input _ 1 (omega arith), (blocks_of_input book 0 book_blocks, tt))
