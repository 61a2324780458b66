-- How often reading a call's files decodes a block of the book, and that each reading ends in one of the three ways that the count tells apart.
-- Assumes nothing.
use mathlib.Core.Path.{◌≡◌, ◌∙◌}
use Prim.Native.Nat.{ℕ, ◌≤◌}
use native.Mathlib.Decide.{ℕ_discrete}
use native.Mathlib.Omega.{arith}
use lib.ListN.{length, get_or}
use Rattle.numbers.proofs.Refusals.{first_of_none, answer_refused, answer_both}
use Rattle.book.specs.Book.{book_bytes, book_decodes}
use Rattle.book.proofs.Decodes as of-book
use Rattle.book.proofs.RowsWithin.{whole_book}
use Rattle.files.specs.Files.{Files, length_refusal, before_book_refusals, before_book_refusal, files_refusals, files_refusal, files_decodes}
use Rattle.files.specs.Laws.{DecodesLaw, accepted, block_refused, before_blocks, EndsLaw}
use Rattle.files.proofs.FirstBytes.{site_length, book_length}

module _ (f : Files) where
  -- nothing is decoded on a refusal before the book
  none_decoded : (before_book_refusal f ≡ 0 → ⊥) → files_decodes f ≡ 0
  unfolding files_decodes
  none_decoded refused = answer_refused (book_decodes f.book) (λ r. 0) (before_book_refusal f) refused

  -- be it the length's, the site file's or the foods block's, numbers 0 to 2 of those refusals
  none_decoded_at : (k : ℕ) → (get_or (before_book_refusals f) k 0 ≡ 0 → ⊥) → files_decodes f ≡ 0
  unfolding before_book_refusal
  none_decoded_at k refused = none_decoded (λ none. refused (first_of_none (before_book_refusals f) none k))

  wrong-length : length_refusal f ≡ 1 → files_decodes f ≡ 0
  wrong-length one = none_decoded_at 0 (λ none. omega (arith, one))

  module _ (none_before : before_book_refusal f ≡ 0) where
    -- without one the count is the book's
    decodes_of_book : files_decodes f ≡ book_decodes f.book
    unfolding files_decodes
    decodes_of_book = rw none_before

    book_long : length f.book ≡ book_bytes
    unfolding before_book_refusal
    book_long =
        elim (ℕ_discrete (length f.book) book_bytes) [
          | yes long ↦ long
          | no short ↦
              let one = book_length f.site f.book short in
              absurd (omega (arith, first_of_none (before_book_refusals f) none_before 0, one))
        ]

pub decodes_law : DecodesLaw
unfolding files_refusal files_decodes
decodes_law f =
    let of-book = of-book.decodes_law f.book in
    record {
      accepted =
          λ passed.
          let none = first_of_none (files_refusals f) passed in
          decodes_of_book f (none 0) ∙ of-book.accepted (none 1);
      block_refused =
          λ n stop. decodes_of_book f stop.none_before ∙ of-book.block_refused (book_long f stop.none_before) n stop.block;
      before_blocks = none_decoded f;
      site_length = λ short. wrong-length f (site_length f.site f.book short);
      book_length = λ short. wrong-length f (book_length f.site f.book short);
      site_refused = none_decoded_at f 1;
      foods_refused = none_decoded_at f 2;
      at_most = answer_both (book_decodes f.book) (λ r. 0) (λ (m : ℕ). m ≤ 17) of-book.at_most (λ r. omega arith) (before_book_refusal f);
    }

pub ends_law : EndsLaw
unfolding files_refusal
ends_law f =
    elim (ℕ_discrete (before_book_refusal f) 0) [
      | no refused ↦ before_blocks refused
      | yes none_before ↦
          elim (of-book.found f.book) [
            | of-book.none each ↦ accepted (rw (none_before, whole_book f.book (book_long f none_before) each))
            | of-book.first n stop ↦ block_refused n (record { none_before = none_before; block = stop })
          ]
    ]
