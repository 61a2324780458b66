-- The laws of the foods block.
-- Assumes nothing.
use Rattle.std.specs.Prelude.{◌≡◌, true, List, ◌++◌, ℕ, length, take, drop}
use Rattle.block.specs.Block.{block_bytes, field_at, check_at, check_of}
use Rattle.block.specs.Writer.{layout_words, layout, body_with, written, BodyPasses}
use Rattle.foods.specs.Names.{amount_count, figure_count}
use Rattle.foods.specs.Figures.{shares_fit, amounts_fit}
use Rattle.foods.specs.Limits.{FoodsLimits}
use Rattle.foods.specs.Foods.{foods_form, figures_of, foods_refusal, foods_figures}

-- the figures of an accepted block are within their limits
abbrev pub FoodsWithin : Type 0
FoodsWithin = (block : List ℕ) → foods_refusal block ≡ 0 → FoodsLimits (foods_figures block)

-- only a block with the right check is accepted
abbrev pub RightCheck : Type 0
RightCheck = (block : List ℕ) → foods_refusal block ≡ 0 → field_at block check_at ≡ check_of block

-- the body that 128 figures are laid out in
unfoldable pub foods_body : List ℕ → List ℕ
foods_body f = body_with foods_form (layout_words (take amount_count f) ++ layout (drop amount_count f))

-- a block is read as these figures
pub record FoodsRead (block f : List ℕ) : Type 0 where
  pub refusal : foods_refusal block ≡ 0
  pub figures : foods_figures block ≡ f

-- a body that 4 to 6, 10 and 11 let pass, written into a target, is read as its figures
abbrev pub BodyReadBack : Type 0
BodyReadBack =
    (body target : List ℕ) → BodyPasses body foods_form → shares_fit (figures_of body) ≡ true → amounts_fit (figures_of body) ≡ true → length target ≡ block_bytes
    → FoodsRead (written body target) (figures_of body)

-- 128 figures within their limits, laid out, written and read, are these figures
abbrev pub FiguresReadBack : Type 0
FiguresReadBack =
    (f target : List ℕ) → length f ≡ figure_count → shares_fit f ≡ true → amounts_fit f ≡ true → length target ≡ block_bytes
    → FoodsRead (written (foods_body f) target) f
