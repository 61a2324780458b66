-- A written foods block is read back as its body's figures, and as the figures that were laid out.
-- Assumes nothing.
use mathlib.Core.Path.{◌≡◌, refl, sym, ap, ap₂, ◌∙◌}
use mathlib.Core.List.{List, [], ◌++◌, append-nil}
use Prim.Native.Nat.{ℕ, ◌+◌, ◌-◌, ◌*◌, ◌/◌, ◌%◌, ◌<◌}
use native.Mathlib.Decide.{dec_lt}
use native.Mathlib.Omega.{arith}
use lib.ListN.{length, get_or, take, drop, length-append, length-drop, take-append-drop}
use lib.Seq.{length-take-le, get_or-take, get_or-drop}
use Rattle.numbers.specs.Choice.{unless}
use Rattle.numbers.proofs.Lists.{get_or_below}
use Rattle.block.specs.Block.{Bytes, fields_at, check_at, words_from, fields_from}
use Rattle.block.specs.Writer.{layout_words, layout, body_with, sealed, BodyPasses}
use Rattle.block.proofs.Laid.{bytes_append, length-layout_words, bytes_layout_words, length-layout, bytes_layout, laid_passes, words_body, fields_body_behind}
use Rattle.block.proofs.Sealed.{length-sealed, words_sealed, fields_sealed, sealed_passes, written-sealed}
use Rattle.foods.specs.Names.{food_count, amount_count, local_count, wide_count, figure_count}
use Rattle.foods.specs.Figures.{shares_from, local_leads_from, shares_fit, amounts_fit}
use Rattle.foods.specs.Limits.{FoodsLimits}
use Rattle.foods.specs.Foods.{leads_at, foods_form, figures_of, foods_refusal}
use Rattle.foods.specs.Laws.{foods_body, BodyReadBack, FiguresReadBack}
use Rattle.foods.proofs.ReadAnswers.{refusal_by_tests}
use Rattle.foods.proofs.FigureTests.{fit_limits}
use Rattle.foods.proofs.FiguresWithin.{accepted_figures}

-- the figures of a sealed body are the body's
figures-sealed : (body : List ℕ) → length body ≡ check_at → figures_of (sealed body) ≡ figures_of body
unfolding figures_of
figures-sealed body long =
    ap₂ ◌++◌ (words_sealed body long fields_at amount_count (omega arith)) (fields_sealed body long leads_at wide_count (omega arith))

pub body_read_back : BodyReadBack
unfolding unless
body_read_back body target passes shares amounts room =
    let same = figures-sealed body passes.long in
    let accepted : foods_refusal (sealed body) ≡ 0 =
    sym (refusal_by_tests (sealed body) (length-sealed body passes.long) (sym (sealed_passes body passes.long foods_form passes)) (sym same) (sym shares) (sym amounts)) in
    rw (written-sealed body target passes.long room)
    (record { refusal = accepted; figures = accepted_figures (sealed body) accepted ∙ same })

-- figures laid out: the grams as words, the others as fields
module _ (f : List ℕ) (full : length f ≡ figure_count) where
  abbrev grams : List ℕ
  grams = take amount_count f

  abbrev wide : List ℕ
  wide = drop amount_count f

  length_grams : length grams ≡ amount_count
  length_grams = length-take-le amount_count f (omega arith)

  length_wide : length wide ≡ wide_count
  length_wide = length-drop amount_count f ∙ omega arith

  laid : List ℕ
  laid = layout_words grams ++ layout wide

  by_laid : foods_body f ≡ body_with foods_form laid
  unfolding foods_body laid
  by_laid = refl

  length_laid : length laid ≡ 302
  unfolding laid
  length_laid =
      length-append (layout_words grams) (layout wide)
      ∙ omega (arith, length-layout_words grams, length-layout wide, length_grams, length_wide)

  bytes_laid : Bytes laid
  unfolding laid
  bytes_laid = bytes_append (layout_words grams) (layout wide) (bytes_layout_words grams) (bytes_layout wide)

  pub body_passes : BodyPasses (foods_body f) foods_form
  body_passes =
      rw by_laid (laid_passes foods_form laid (omega (arith, length_laid)) bytes_laid (omega arith) (omega arith) (omega (arith, length_laid)))

  -- each figure fits the bits that it is laid out in
  module _ (limits : FoodsLimits f) where
    grams_small : (k : ℕ) → get_or grams k 0 < 65536
    grams_small =
        get_or_below 65536 (omega arith) grams
        (λ k h.
        let below : k < amount_count = omega (arith, length_grams) in
        let split : food_count * (k / food_count) + k % food_count ≡ k = omega arith in
        let gram = limits.its_grams (k / food_count) (k % food_count) (omega arith) (omega arith) in
        rw (get_or-take amount_count f k 0 below) (omega (arith, rw split at gram)))

    wide_at : (k : ℕ) → k < wide_count → get_or f (amount_count + k) 0 < 4_294_967_296
    wide_at k h =
        elim (dec_lt k food_count) [
          | yes lead ↦ omega (arith, limits.its_leads k lead)
          | no others ↦
              elim (dec_lt k (food_count + local_count)) [
                | yes share ↦
                    let at : shares_from + (k - food_count) ≡ amount_count + k = omega arith in
                    let within = limits.each_share (k - food_count) (omega arith) in
                    omega (arith, rw at at within)
                | no local ↦
                    let at : local_leads_from + (k - (food_count + local_count)) ≡ amount_count + k = omega arith in
                    let within = limits.local_leads (k - (food_count + local_count)) (omega arith) in
                    omega (arith, rw at at within)
              ]
        ]

    wide_small : (k : ℕ) → get_or wide k 0 < 4_294_967_296
    wide_small =
        get_or_below 4_294_967_296 (omega arith) wide
        (λ k h. rw (get_or-drop amount_count f k 0) (wide_at k (omega (arith, length_wide))))

    words_laid : words_from fields_at amount_count (foods_body f) ≡ grams
    unfolding laid
    words_laid =
        ap₂ (λ (n : ℕ) (body : List ℕ). words_from fields_at n body) (sym length_grams) by_laid
        ∙ words_body foods_form [] (layout wide) grams laid refl grams_small

    fields_laid : fields_from leads_at wide_count (foods_body f) ≡ wide
    unfolding laid
    fields_laid =
        let at : leads_at ≡ fields_at + length (layout_words grams) = omega (arith, length-layout_words grams, length_grams) in
        ap₂ (λ (n : ℕ) (body : List ℕ). fields_from leads_at n body) (sym length_wide) by_laid
        ∙ ap (λ (from : ℕ). fields_from from (length wide) (body_with foods_form laid)) at
        ∙ fields_body_behind foods_form (layout_words grams) [] wide laid (ap (λ (l : List ℕ). layout_words grams ++ l) (sym (append-nil (layout wide)))) wide_small

    figures_laid : figures_of (foods_body f) ≡ f
    unfolding figures_of
    figures_laid = ap₂ ◌++◌ words_laid fields_laid ∙ take-append-drop amount_count f

pub figures_read_back : FiguresReadBack
figures_read_back f target full shares amounts room =
    let same : figures_of (foods_body f) ≡ f = figures_laid f full (fit_limits f shares amounts) in
    let read = body_read_back (foods_body f) target (body_passes f full) (ap shares_fit same ∙ shares) (ap amounts_fit same ∙ amounts) room in
    record { refusal = read.refusal; figures = read.figures ∙ same }
