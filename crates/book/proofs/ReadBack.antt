-- A written block of a book is read back as its body's numbers and as the numbers that were laid out, and so is the whole book.
-- Assumes nothing.
use mathlib.Core.Path.{◌≡◌, sym, ap, ◌∙◌}
use mathlib.Core.Bool.{true}
use mathlib.Core.List.{List}
use Prim.Native.Nat.{ℕ, ◌+◌, ◌*◌, ◌/◌, ◌%◌, ◌≤◌, ◌<◌}
use native.Mathlib.Omega.{arith}
use lib.ListN.{length, get_or, drop, length-drop}
use lib.Seq.{length-take-le, get_or-take, get_or-drop, ext_get_or}
use Rattle.numbers.proofs.Every.{every_of, length-tab}
use Rattle.numbers.proofs.Lists.{get_or_below}
use Rattle.numbers.specs.Choice.{unless}
use Rattle.block.specs.Block.{fields_at, fields_a_block, block_refusal, fields_of, block_at}
use Rattle.block.specs.Writer.{sealed, body_of}
use Rattle.block.proofs.Laid.{body_passes, fields_body}
use Rattle.block.proofs.Sealed.{fields_sealed, sealed_passes, written-sealed}
use Rattle.row.specs.Row.{rows_a_block, last_month, row_of, row_fits, rows_fit}
use Rattle.book.specs.Book.{book_blocks, numbers_a_block, table_numbers, book_form, block_numbers, book_block_refusal, book_number, numbers_of}
use Rattle.book.specs.Laws.{BlockReads, BodyReadBack, NumbersReadBack, block_part, BookReadBack}
use Rattle.book.proofs.RowsWithin.{whole_book, number_read, accepted_numbers}
use Rattle.book.proofs.Decode.{rows_in_block}
use Rattle.row.proofs.RowTests.{month_fits}

pub body_read_back : BodyReadBack
unfolding book_block_refusal unless
body_read_back book body target n below room here passes fit =
    let block : block_at book n ≡ sealed body = here ∙ written-sealed body target passes.long room in
    let same : block_numbers (block_at book n) ≡ block_numbers body = ap block_numbers block ∙ fields_sealed body passes.long fields_at numbers_a_block (omega arith) in
    let header : block_refusal (block_at book n) (book_form n) ≡ 0 =
    ap (λ (b : List ℕ). block_refusal b (book_form n)) block ∙ sealed_passes body passes.long (book_form n) passes in
    record {
      refusal = rw (header, ap (λ (l : List ℕ). rows_fit l 0) same ∙ fit);
      read = λ j h. number_read book n j below h ∙ ap (λ (l : List ℕ). get_or l j 0) same;
    }

pub numbers_read_back : NumbersReadBack
numbers_read_back book numbers target n below room here long small fit =
    let few : length numbers ≤ fields_a_block = omega arith in
    let same : block_numbers (body_of (book_form n) numbers) ≡ numbers =
    ap (λ (k : ℕ). fields_of k (body_of (book_form n) numbers)) (sym long) ∙ fields_body (book_form n) numbers few small in
    rw same at
    (body_read_back book (body_of (book_form n) numbers) target n below room here (body_passes (book_form n) numbers few (omega arith) (omega arith) (omega arith))
    (ap (λ (l : List ℕ). rows_fit l 0) same ∙ fit))

-- the 115 numbers of a block, of all numbers of a book
module _ (numbers : List ℕ) (long : length numbers ≡ table_numbers) (n : ℕ) (below : n < book_blocks) where
  length_part : length (block_part numbers n) ≡ numbers_a_block
  length_part = length-take-le numbers_a_block (drop (numbers_a_block * n) numbers) (omega (arith, length-drop (numbers_a_block * n) numbers))

  number_of_part : (j : ℕ) → j < numbers_a_block → get_or (block_part numbers n) j 0 ≡ get_or numbers (numbers_a_block * n + j) 0
  number_of_part j h = get_or-take numbers_a_block (drop (numbers_a_block * n) numbers) j 0 h ∙ get_or-drop (numbers_a_block * n) numbers j 0

  part_small : ((k : ℕ) → get_or numbers k 0 < 4_294_967_296) → (k : ℕ) → get_or (block_part numbers n) k 0 < 4_294_967_296
  part_small small =
      get_or_below 4_294_967_296 (omega arith) (block_part numbers n)
      (λ k h. rw (number_of_part k (omega (arith, length_part))) (small (numbers_a_block * n + k)))

  part_fits : ((month : ℕ) → month ≤ last_month → row_fits (row_of numbers month) ≡ true) → rows_fit (block_part numbers n) 0 ≡ true
  unfolding rows_fit
  part_fits fit =
      sym (rows_in_block n numbers (block_part numbers n) (λ j h. sym (number_of_part j h)))
      ∙ every_of (month_fits numbers) (rows_a_block * n) rows_a_block (λ month a b. fit month (omega arith))

-- a book whose blocks read as these numbers has them, in all blocks together
numbers_read : (book numbers : List ℕ) → length numbers ≡ table_numbers → ((n : ℕ) → n < book_blocks → BlockReads book n (block_part numbers n)) → numbers_of book ≡ numbers
unfolding numbers_of
numbers_read book numbers long reads =
    ext_get_or 0 (numbers_of book) numbers (length-tab table_numbers (book_number book) ∙ sym long)
    (λ k h.
    let n = k / numbers_a_block in
    let here : k < table_numbers = omega (arith, length-tab table_numbers (book_number book)) in
    let below : k / numbers_a_block < book_blocks = omega arith in
    let split : k ≡ numbers_a_block * (k / numbers_a_block) + k % numbers_a_block = omega arith in
    ap (λ (i : ℕ). get_or (numbers_of book) i 0) split
    ∙ (reads n below).read (k % numbers_a_block) (omega arith)
    ∙ number_of_part numbers long n below (k % numbers_a_block) (omega arith)
    ∙ ap (λ (i : ℕ). get_or numbers i 0) (sym split))

pub book_read_back : BookReadBack
book_read_back book numbers targets long-book long small fit room here =
    let reads : (n : ℕ) → n < book_blocks → BlockReads book n (block_part numbers n) =
    λ n below.
    numbers_read_back book (block_part numbers n) (targets n) n below (room n below) (here n below) (length_part numbers long n below) (part_small numbers long n below small)
    (part_fits numbers long n below fit) in
    let accepted = whole_book book long-book (λ n below. (reads n below).refusal) in
    record { refusal = accepted; table = accepted_numbers book accepted ∙ numbers_read book numbers long reads }
