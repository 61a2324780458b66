-- What reading a call's files answers, in the order of its refusals: a length, the site file, the foods block, the book.
-- Assumes nothing.
use mathlib.Core.Path.{◌≡◌, subst, sym, ◌∙◌}
use Rattle.std.proofs.Common.{Ok, Err}
use mathlib.Core.List.{List, [], ◌∷◌}
use Prim.Native.Nat.{ℕ}
use Rattle.numbers.specs.Choice.{or_else, first_of}
use Rattle.numbers.proofs.Refusals.{or_else_first, or_else-last, answer_refused}
use Rattle.refusal.specs.declared.Refusal.{Refusal}
use Rattle.refusal.specs.Refusal.{number_of}
use Rattle.refusal.proofs.Numbers.{some_number}
use Rattle.site.specs.declared.Scenario.{Scenario}
use Rattle.site.specs.Site.{site_refusal}
use Rattle.book.specs.Book.{book_refusal, book_decodes}
use Rattle.files.specs.Files.{Files, foods_refusal_in, length_refusal, before_book_refusal, files_refusal, files_decodes, scenario_in, table_in}
use Rattle.files.specs.FilesRead.{FilesRead}
use Rattle.files.specs.Internal.{read_with, FilesAreRead}

-- the first refusal of two that is one
pub first_refused : (r : Refusal) (x s : ℕ) → number_of r ≡ x → number_of r ≡ or_else x s
first_refused r x s e = e ∙ sym (or_else_first x s (λ z. some_number r (e ∙ z)))

module _ (f : Files) where
  -- refused before the book
  refused_before : (r : Refusal) (table : List ℕ) → number_of r ≡ before_book_refusal f → FilesAreRead f table (read_with (Err r) 0)
  unfolding files_refusal files_decodes
  refused_before r table e =
      record {
        refusal = e ∙ sym (or_else_first (before_book_refusal f) _ (λ z. some_number r (e ∙ z)));
        decodes = sym (answer_refused (book_decodes f.book) (λ n. 0) (before_book_refusal f) (λ z. some_number r (e ∙ z)));
        scenario = λ z. absurd (some_number r z);
        table_is = λ z. absurd (some_number r z);
      }

  pub lengths_refused : (r : Refusal) (table : List ℕ) → number_of r ≡ length_refusal f → FilesAreRead f table (read_with (Err r) 0)
  unfolding before_book_refusal
  lengths_refused r table e = refused_before r table (e ∙ sym (or_else_first (length_refusal f) _ (λ z. some_number r (e ∙ z))))

  module _ (lengths : 0 ≡ length_refusal f) where
    before_is : before_book_refusal f ≡ first_of (site_refusal f.site ∷ foods_refusal_in f.foods ∷ [])
    unfolding before_book_refusal
    before_is = rw (sym lengths)

    pub scenario_refused : (r : Refusal) (table : List ℕ) → number_of r ≡ first_of (site_refusal f.site ∷ foods_refusal_in f.foods ∷ []) → FilesAreRead f table (read_with (Err r) 0)
    scenario_refused r table e = refused_before r table (e ∙ sym before_is)

    -- refused with the book, or read
    module _ (before : 0 ≡ first_of (site_refusal f.site ∷ foods_refusal_in f.foods ∷ [])) (table : List ℕ) (decodes : ℕ) (counted : decodes ≡ book_decodes f.book) where
      none_before : before_book_refusal f ≡ 0
      none_before = before_is ∙ sym before

      pub book_refused : (r : Refusal) → number_of r ≡ book_refusal f.book → FilesAreRead f table (read_with (Err r) decodes)
      unfolding files_refusal files_decodes
      book_refused r e =
          let none = none_before in
          record {
            refusal = rw none (e ∙ sym (or_else-last (book_refusal f.book)));
            decodes = rw none counted;
            scenario = λ z. absurd (some_number r z);
            table_is = λ z. absurd (some_number r z);
          }

      pub files_read : {s : Scenario} → s ≡ scenario_in f → 0 ≡ book_refusal f.book → table ≡ table_in f → FilesAreRead f table (read_with (Ok s) decodes)
      unfolding files_refusal files_decodes
      files_read scenario e read =
          let none = none_before in
          record {
            refusal = rw none (e ∙ sym (or_else-last (book_refusal f.book)));
            decodes = rw none counted;
            scenario = λ z. scenario;
            table_is = λ z. read;
          }

-- the reading of the same files
pub read_same : {f g : Files} {table : List ℕ} {x : FilesRead} → f ≡ g → FilesAreRead f table x → FilesAreRead g table x
read_same {f} {g} {table} {x} e read = subst (λ (h : Files). FilesAreRead h table x) e read
