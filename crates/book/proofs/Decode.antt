-- Decoding a book block by block: what a block leaves in the table, and the loop over the blocks.
-- Assumes nothing.
use mathlib.Core.Path.{◌≡◌, refl, sym, ap, ap₂, ◌∙◌}
use mathlib.Core.Bool.{Bool}
use mathlib.Core.List.{List, [], ◌++◌, append_assoc}
use Prim.Native.Nat.{ℕ, suc, ◌+◌, ◌-◌, ◌*◌, ◌/◌, ◌%◌, ◌≤◌, ◌<◌}
use native.Mathlib.Nat.{zero-add, add-zero}
use native.Mathlib.Numerals.{add-one}
use native.Mathlib.Omega.{arith}
use lib.ListN.{length, get_or, take, drop, length-append, length-drop, get_or-append}
use lib.Seq.{get_or-append-add, take_at, length-take-le, take_all}
use Rattle.std.specs.Simd.{first_chunks}
use Rattle.numbers.specs.Choice.{unless, answer_by, tab}
use Rattle.numbers.proofs.Every.{every_shift, tab_same, tab-append, length-tab}
use Rattle.numbers.proofs.Refusals.{or_else_first, or_else-last, answer_refused}
use Rattle.block.specs.declared.Form.{Form}
use Rattle.block.specs.Block.{block_bytes, block_refusal, fields_of, block_at, numbers_from}
use Rattle.block.proofs.BlockRefusals.{field}
use Rattle.row.specs.Row.{numbers_a_row, rows_a_block, row_numbers, row_from, row_of, row_fits, rows_fit}
use Rattle.book.specs.BookRead.{BookRead}
use Rattle.book.specs.Book.{book_blocks, book_bytes, numbers_a_block, table_numbers, book_form, block_numbers, book_block_refusal, blocks_refusal, blocks_decoded, book_number, numbers_of}
use Rattle.numbers.specs.Parts.{placed}
use Rattle.numbers.proofs.Parts.{chunk_part, placed_lent, placed_long}
use Rattle.book.specs.Internal.{BlockDecoded, BookDecoded}
use Rattle.row.proofs.RowTests.{month_fits}

-- the block that the code reads: one of the book's chunks
pub chunk_block : (book : List ℕ) (n : ℕ) {blocks : List (List ℕ)} → length book ≡ book_bytes → n < book_blocks
    → blocks ≡ first_chunks block_bytes (length book / block_bytes) book → get_or blocks n [] ≡ block_at book n
unfolding block_at
chunk_block book n long h front = chunk_part block_bytes book_blocks n book (ap (λ l. l / block_bytes) long) h front

length_numbers : (block : List ℕ) → length (block_numbers block) ≡ numbers_a_block
unfolding numbers_from
length_numbers block = length-tab numbers_a_block (field block)

-- number j of block n in the book
pub number_in_block : (book : List ℕ) (n j : ℕ) → j < numbers_a_block → book_number book (numbers_a_block * n + j) ≡ field (block_at book n) j
number_in_block book n j h =
    let block : (numbers_a_block * n + j) / numbers_a_block ≡ n = omega arith in
    let place : (numbers_a_block * n + j) % numbers_a_block ≡ j = omega arith in
    ap₂ (λ (b k : ℕ). field (block_at book b) k) block place

-- if the part of a table for block n is these 115 numbers, its five rows are theirs
module _ (n : ℕ) (table numbers : List ℕ) (same : (j : ℕ) → j < numbers_a_block → get_or table (numbers_a_block * n + j) 0 ≡ get_or numbers j 0) where
  pub row_in_block : (r : ℕ) → r < rows_a_block → row_of table (rows_a_block * n + r) ≡ row_of numbers r
  unfolding row_of row_numbers
  row_in_block r h =
      ap row_from
      (tab_same numbers_a_row (λ (k : ℕ). get_or table (numbers_a_row * (rows_a_block * n + r) + k) 0) (λ (k : ℕ). get_or numbers (numbers_a_row * r + k) 0)
      (λ k l.
      let at : numbers_a_row * (rows_a_block * n + r) + k ≡ numbers_a_block * n + (numbers_a_row * r + k) = omega arith in
      ap (λ (i : ℕ). get_or table i 0) at ∙ same (numbers_a_row * r + k) (omega arith)))

  pub rows_in_block : rows_fit table (rows_a_block * n) ≡ rows_fit numbers 0
  unfolding rows_fit
  rows_in_block =
      every_shift (month_fits table) (month_fits numbers) (rows_a_block * n) 0 rows_a_block
      (λ r h. ap row_fits (row_in_block r h ∙ ap (row_of numbers) (sym (zero-add r))))

-- a table with a block's numbers in their place
module _ (n : ℕ) (numbers table : List ℕ) (long : length table ≡ table_numbers) (below : n < book_blocks) (full : length numbers ≡ numbers_a_block) where
  length_front : length (take (numbers_a_block * n) table) ≡ numbers_a_block * n
  length_front = length-take-le (numbers_a_block * n) table (omega arith)

  number_placed : (j : ℕ) → j < numbers_a_block → get_or (placed numbers_a_block n numbers table) (numbers_a_block * n + j) 0 ≡ get_or numbers j 0
  unfolding placed
  number_placed j h =
      ap (λ (k : ℕ). get_or (take (numbers_a_block * n) table ++ (numbers ++ drop numbers_a_block (drop (numbers_a_block * n) table))) (k + j) 0) (sym length_front)
      ∙ get_or-append-add (take (numbers_a_block * n) table) (numbers ++ drop numbers_a_block (drop (numbers_a_block * n) table)) j 0
      ∙ get_or-append numbers (drop numbers_a_block (drop (numbers_a_block * n) table)) 0 j (omega arith)

  rows_placed : rows_fit (placed numbers_a_block n numbers table) (rows_a_block * n) ≡ rows_fit numbers 0
  rows_placed = rows_in_block n (placed numbers_a_block n numbers table) numbers number_placed

  -- the blocks before, and then this one
  take-placed : take (numbers_a_block * n + numbers_a_block) (placed numbers_a_block n numbers table) ≡ take (numbers_a_block * n) table ++ numbers
  unfolding placed
  take-placed =
      ap (take (numbers_a_block * n + numbers_a_block)) (sym (append_assoc (take (numbers_a_block * n) table) numbers (drop numbers_a_block (drop (numbers_a_block * n) table))))
      ∙ take_at (take (numbers_a_block * n) table ++ numbers) (drop numbers_a_block (drop (numbers_a_block * n) table)) (numbers_a_block * n + numbers_a_block)
      (length-append (take (numbers_a_block * n) table) numbers ∙ omega (arith, length_front))

-- the table as the code leaves it, with numbers stored in the part lent for block n
abbrev pub stored : ℕ → List ℕ → List ℕ → List ℕ
stored n numbers table = take (numbers_a_block * n) table ++ (numbers ++ drop (numbers_a_block * n + numbers_a_block - numbers_a_block * n) (drop (numbers_a_block * n) table))

-- block n of a book, as the code reads it
module _
    (book : List ℕ) (n : ℕ) (table : List ℕ) (long : length table ≡ table_numbers)
    {block : List ℕ} (its : block ≡ block_at book n) {form : Form} (due : form ≡ book_form n)
  where
    header_of : block_refusal block form ≡ block_refusal (block_at book n) (book_form n)
    header_of = ap₂ block_refusal its due

    -- refused by its header, with the table left
    pub refused_by_header : {r : ℕ} → r ≡ block_refusal block form → (r ≡ 0 → ⊥) → BlockDecoded book n table table r
    unfolding book_block_refusal
    refused_by_header {r} e h =
        let header : r ≡ block_refusal (block_at book n) (book_form n) = e ∙ header_of in
        record {
          refusal = sym (rw (← header) (or_else_first r _ h));
          long = long;
          table = λ z. absurd (h z);
        }

    module _
        (below : n < book_blocks)
        (header : 0 ≡ block_refusal block form)
        {numbers : List ℕ}
        (read : numbers ≡ fields_of (length (take (numbers_a_block * n + numbers_a_block - numbers_a_block * n) (drop (numbers_a_block * n) table))) block)
      where
        read_numbers : numbers ≡ block_numbers (block_at book n)
        read_numbers =
            let few : length (take (numbers_a_block * n + numbers_a_block - numbers_a_block * n) (drop (numbers_a_block * n) table)) ≡ numbers_a_block =
            length-take-le (numbers_a_block * n + numbers_a_block - numbers_a_block * n) (drop (numbers_a_block * n) table) (omega (arith, length-drop (numbers_a_block * n) table)) ∙ omega arith in
            read ∙ ap₂ fields_of few its

        stored_placed : stored n numbers table ≡ placed numbers_a_block n (block_numbers (block_at book n)) table
        stored_placed = placed_lent numbers_a_block table n read_numbers

        -- its numbers placed, refused by its rows or not at all
        pub checked_rows : {fit : Bool} → rows_fit (stored n numbers table) (rows_a_block * n) ≡ fit
            → BlockDecoded book n table (stored n numbers table) (unless fit 8)
        unfolding book_block_refusal unless
        checked_rows {fit} rows =
            let numbers-long = length_numbers (block_at book n) in
            let own : rows_fit (block_numbers (block_at book n)) 0 ≡ fit =
            sym (rows_placed n (block_numbers (block_at book n)) table long below numbers-long) ∙ ap (λ (l : List ℕ). rows_fit l (rows_a_block * n)) (sym stored_placed) ∙ rows in
            let passed : block_refusal (block_at book n) (book_form n) ≡ 0 = sym header_of ∙ sym header in
            record {
              refusal = sym (rw (passed, own) (or_else-last (unless fit 8)));
              long = ap length stored_placed ∙ placed_long numbers_a_block book_blocks table n (block_numbers (block_at book n)) long below numbers-long;
              table = λ z. stored_placed;
            }

-- the loop over the blocks, at block n: each block before it was decoded, and what is left is refused and counted as the whole
pub record AtBlock (book table : List ℕ) (n decodes : ℕ) : Type 0 where
  pub reach : n ≤ book_blocks
  pub counted : decodes ≡ n
  pub long : length table ≡ table_numbers
  pub refusal : blocks_refusal book n (book_blocks - n) ≡ blocks_refusal book 0 book_blocks
  pub count : decodes + blocks_decoded book n (book_blocks - n) ≡ blocks_decoded book 0 book_blocks
  pub front : take (numbers_a_block * n) table ≡ tab (numbers_a_block * n) (book_number book)

module _ (book table : List ℕ) where
  pub at_first : length table ≡ table_numbers → AtBlock book table 0 0
  unfolding tab
  at_first h = record { reach = omega arith; counted = refl; long = h; refusal = refl; count = zero-add _; front = refl }

  module _ (n decodes : ℕ) (i : AtBlock book table n decodes) where
    module _ (h : n < book_blocks) (after : List ℕ) (r : BookRead) (d : BlockDecoded book n table after r.refusal) (by_one : r.decodes ≡ decodes + 1) where
      blocks_left : book_blocks - n ≡ suc (book_blocks - (n + 1))
      blocks_left = omega arith

      -- the blocks from block n on are this one, and those after it unless it is refused
      decoded_from : blocks_decoded book n (book_blocks - n) ≡ suc (answer_by r.refusal (blocks_decoded book (n + 1) (book_blocks - (n + 1))) (λ k. 0))
      unfolding blocks_decoded
      decoded_from = rw (blocks_left, d.refusal, add-one n)

      -- this block raises the number
      raised : (left : ℕ) → blocks_decoded book n (book_blocks - n) ≡ suc left → r.decodes + left ≡ blocks_decoded book 0 book_blocks
      raised left e = omega (arith, e, by_one, i.count)

      pub at_refused : (r.refusal ≡ 0 → ⊥) → BookDecoded book after r
      unfolding blocks_refusal
      at_refused z =
          let last : blocks_decoded book n (book_blocks - n) ≡ 1 = decoded_from ∙ ap suc (answer_refused _ (λ k. 0) r.refusal z) in
          record {
            refusal = sym (sym i.refusal ∙ rw (blocks_left, ← d.refusal) (or_else_first r.refusal (blocks_refusal book (suc n) (book_blocks - (n + 1))) z));
            count = omega (arith, raised 0 last);
            long = d.long;
            table = λ e. absurd (z e);
          }

      numbers_next : tab numbers_a_block (λ (j : ℕ). book_number book (numbers_a_block * n + j)) ≡ block_numbers (block_at book n)
      unfolding numbers_from
      numbers_next =
          tab_same numbers_a_block (λ (j : ℕ). book_number book (numbers_a_block * n + j)) (field (block_at book n)) (number_in_block book n)

      front_next : r.refusal ≡ 0 → take (numbers_a_block * (n + 1)) after ≡ tab (numbers_a_block * (n + 1)) (book_number book)
      front_next z =
          let one_more : numbers_a_block * (n + 1) ≡ numbers_a_block * n + numbers_a_block = omega arith in
          rw one_more
          (ap (take (numbers_a_block * n + numbers_a_block)) (d.table z)
          ∙ take-placed n (block_numbers (block_at book n)) table i.long h (length_numbers (block_at book n))
          ∙ ap₂ ◌++◌ i.front (sym numbers_next)
          ∙ sym (tab-append (numbers_a_block * n) numbers_a_block (book_number book)))

      pub at_next : r.refusal ≡ 0 → AtBlock book after (n + 1) r.decodes
      unfolding blocks_refusal
      at_next z =
          record {
            reach = omega arith;
            counted = omega (arith, by_one, i.counted);
            long = d.long;
            refusal = sym (rw (blocks_left, ← d.refusal, z, ← add-one n) at (sym i.refusal));
            count = raised _ (rw z at decoded_from);
            front = front_next z;
          }

    pub at_end : book_blocks ≤ n → BookDecoded book table (record { refusal = 0; decodes = decodes })
    unfolding blocks_refusal blocks_decoded numbers_of
    at_end h =
        let e : n ≡ book_blocks = omega (arith, i.reach) in
        record {
          refusal = sym (sym i.refusal ∙ rw e);
          count = sym (add-zero decodes) ∙ (rw e at i.count);
          long = i.long;
          table = λ z. sym (take_all table_numbers table (omega (arith, i.long))) ∙ (rw e at i.front);
        }
