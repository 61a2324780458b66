-- The foods reader's ways out, in their order: what decoding a block leaves, and the figures beside each answer.
-- Assumes nothing.
use mathlib.Core.Path.{◌≡◌, sym, ap, ap₂, ◌∙◌}
use mathlib.Core.Bool.{Bool}
use mathlib.Core.List.{List, [], ◌∷◌, ◌++◌, append-nil}
use Prim.Native.Nat.{ℕ}
use native.Mathlib.Omega.{arith}
use lib.ListN.{length, take, drop, length-append, length-drop, drop_of_length-le}
use lib.Seq.{length-take-le, take_at, drop_at}
use borrow.Author.Tests.{eq-eqb, ne_eqb}
use Rattle.numbers.specs.Choice.{unless, first_of}
use Rattle.numbers.proofs.Every.{length-tab}
use Rattle.numbers.proofs.Refusals.{or_else_first}
use Rattle.block.specs.Block.{block_bytes, fields_at, block_refusal, words_from, fields_from, numbers_from}
use Rattle.block.proofs.BlockRefusals.{word_from, field_from}
use Rattle.foods.specs.Names.{amount_count, wide_count, figure_count}
use Rattle.foods.specs.Figures.{shares_fit, amounts_fit}
use Rattle.foods.specs.Foods.{leads_at, foods_form, figures_of, foods_refusal, foods_figures}

-- the figures as the code leaves them, with words stored in the part lent for the grams, and then fields in the part behind it
abbrev pub begun : List ℕ → List ℕ → List ℕ
begun words f = words ++ drop amount_count f

abbrev pub stored : List ℕ → List ℕ → List ℕ → List ℕ
stored words fields f = take amount_count (begun words f) ++ (fields ++ drop wide_count (drop amount_count (begun words f)))

length_words_from : (from n : ℕ) (block : List ℕ) → length (words_from from n block) ≡ n
unfolding numbers_from
length_words_from from n block = length-tab n (word_from from block)

length_fields_from : (from n : ℕ) (block : List ℕ) → length (fields_from from n block) ≡ n
unfolding numbers_from
length_fields_from from n block = length-tab n (field_from from block)

length-figures : (block : List ℕ) → length (figures_of block) ≡ figure_count
unfolding figures_of
length-figures block =
    length-append (words_from fields_at amount_count block) (fields_from leads_at wide_count block)
    ∙ omega (arith, length_words_from fields_at amount_count block, length_fields_from leads_at wide_count block)

module _
    (block f : List ℕ)
    (full : length f ≡ figure_count)
    (words : List ℕ)
    (words-read : words ≡ words_from fields_at (length (take amount_count f)) block)
  where
    its_words : words ≡ words_from fields_at amount_count block
    its_words =
        let room : length (take amount_count f) ≡ amount_count = length-take-le amount_count f (omega arith) in
        words-read ∙ ap (λ (n : ℕ). words_from fields_at n block) room

    length_words : length words ≡ amount_count
    length_words = ap length its_words ∙ length_words_from fields_at amount_count block

    length_behind : length (drop amount_count (begun words f)) ≡ wide_count
    length_behind = ap length (drop_at words (drop amount_count f) amount_count length_words) ∙ length-drop amount_count f ∙ omega arith

    -- what is stored is the figures that the block holds
    pub stored_figures : (fields : List ℕ) → fields ≡ fields_from leads_at (length (take wide_count (drop amount_count (begun words f)))) block
        → stored words fields f ≡ figures_of block
    unfolding figures_of
    stored_figures fields fields_read =
        let behind = drop amount_count (begun words f) in
        let room : length (take wide_count behind) ≡ wide_count = length-take-le wide_count behind (omega (arith, length_behind)) in
        let its-fields : fields ≡ fields_from leads_at wide_count block = fields_read ∙ ap (λ (n : ℕ). fields_from leads_at n block) room in
        ap₂ ◌++◌ (take_at words (drop amount_count f) amount_count length_words ∙ its_words)
        (ap₂ ◌++◌ its-fields (drop_of_length-le behind {i = wide_count} (omega (arith, length_behind))) ∙ append-nil (fields_from leads_at wide_count block))

-- by both tests of the figures, in their order
module _ (block : List ℕ) where
  pub length_refused : (length block ≡ block_bytes → ⊥) → 1 ≡ foods_refusal block
  unfolding foods_refusal unless
  length_refused h = rw (ne_eqb (length block) block_bytes h)

  pub header_refused : length block ≡ block_bytes → (r : ℕ) → r ≡ block_refusal block foods_form → (r ≡ 0 → ⊥) → r ≡ foods_refusal block
  unfolding foods_refusal unless
  header_refused long r header h = sym (rw (eq-eqb (length block) block_bytes long, ← header) (or_else_first r _ h))

  module _ (long : length block ≡ block_bytes) (header : 0 ≡ block_refusal block foods_form) {after : List ℕ} (read : after ≡ figures_of block) where
    pub refusal_by_tests : {shares amounts : Bool} → shares ≡ shares_fit after → amounts ≡ amounts_fit after
        → first_of (unless shares 10 ∷ unless amounts 11 ∷ []) ≡ foods_refusal block
    unfolding foods_refusal unless
    refusal_by_tests shares-tested amounts-tested =
        rw (eq-eqb (length block) block_bytes long, sym header)
        (ap₂ (λ (s a : Bool). first_of (unless s 10 ∷ unless a 11 ∷ [])) (shares-tested ∙ ap shares_fit read) (amounts-tested ∙ ap amounts_fit read))

    pub accepted_block : 0 ≡ foods_refusal block → after ≡ foods_figures block
    unfolding foods_figures
    accepted_block z = read ∙ rw (sym z)
