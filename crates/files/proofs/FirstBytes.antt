-- What is answered of files of a wrong length is answered of their first bytes: one byte past each format is enough to read.
-- Assumes nothing.
use mathlib.Core.Path.{◌≡◌, refl, sym, ◌∙◌}
use Prim.Native.Nat.{ℕ, ◌+◌, ◌<◌}
use mathlib.Core.Bool.{Bool, true, false, ◌&&◌}
use mathlib.Core.List.{List}
use native.Mathlib.Decide.{dec_lt}
use native.Mathlib.Omega.{arith}
use borrow.Author.Tests.{ne_eqb}
use lib.Dec.{eqb}
use lib.ListN.{length, take}
use lib.Seq.{length-take-le, take_all}
use Rattle.numbers.specs.Choice.{unless}
use Rattle.block.specs.Block.{block_bytes}
use Rattle.book.specs.Book.{book_bytes}
use Rattle.files.specs.Files.{Files, length_refusal, files_of}

-- a test whose second part fails
second_fails : (t : Bool) → unless (t && false) 1 ≡ 1
unfolding unless
second_fails true = refl
second_fails false = refl

-- a site file or a book of another length
module _ (site book : List ℕ) where
  pub site_length : (length site ≡ block_bytes → ⊥) → length_refusal (files_of site book) ≡ 1
  unfolding unless
  site_length h = rw (ne_eqb (length site) block_bytes h)

  pub book_length : (length book ≡ book_bytes → ⊥) → length_refusal (files_of site book) ≡ 1
  book_length h = rw (ne_eqb (length book) book_bytes h) (second_fails (eqb (length site) block_bytes))

-- a file that has more than n bytes and more than the `most` read has more than n read
read_long : (n most : ℕ) (l : List ℕ) → n < most → most < length l → length (take most l) ≡ n → ⊥
read_long n most l h g e = omega (arith, length-take-le most l (omega arith))

-- an answer that is x for all files of a wrong length
module _ {A : Type 0} (answer : Files → A) (x : A) (wrong : (f : Files) → length_refusal f ≡ 1 → answer f ≡ x) where
  read_same : (a b : ℕ) → block_bytes < a → book_bytes < b → (site book : List ℕ) → answer (files_of (take a site) (take b book)) ≡ answer (files_of site book)
  read_same a b ha hb site book =
      elim (dec_lt a (length site)) [
        | yes h ↦
            wrong _ (site_length (take a site) (take b book) (read_long block_bytes a site ha h))
            ∙ sym (wrong _ (site_length site book (λ e. omega arith)))
        | no h ↦
            elim (dec_lt b (length book)) [
              | yes g ↦
                  wrong _ (book_length (take a site) (take b book) (read_long book_bytes b book hb g))
                  ∙ sym (wrong _ (book_length site book (λ e. omega arith)))
              | no g ↦ rw (take_all a site (omega arith), take_all b book (omega arith))
            ]
      ]

  pub first_bytes : (site book : List ℕ) → answer (files_of (take (block_bytes + 1) site) (take (book_bytes + 1) book)) ≡ answer (files_of site book)
  first_bytes = read_same (block_bytes + 1) (book_bytes + 1) (omega arith) (omega arith)
