-- The foods reader: refusals 1, 3 to 6, 10 and 11, and the figures that it leaves.
-- Assumes nothing.
use Rattle.std.specs.Prelude.{ℕ, ◌+◌, ◌*◌, List, [], ◌∷◌, ◌++◌, length, replicate, eqb}
use Rattle.numbers.specs.Choice.{unless, first_of, answer_by}
use Rattle.block.specs.declared.Form.{Form}
use Rattle.block.specs.Block.{block_bytes, fields_at, block_refusal, words_from, fields_from}
use Rattle.foods.specs.Names.{amount_count, wide_count, figure_count}
use Rattle.foods.specs.Figures.{shares_fit, amounts_fit}

-- a foods block is one block, number 1, edition 1: the grams in 16 bits each, then in 32 bits each
-- fifteen leads from byte 214, four shares from 274 and their four leads from 290; used up to byte 306
abbrev pub leads_at : ℕ  -- 214
leads_at = fields_at + 2 * amount_count

abbrev pub foods_form : Form
foods_form = record { number = 1; edition = 1; used = leads_at + 4 * wide_count }

-- the figures that a block holds
unfoldable pub figures_of : List ℕ → List ℕ
figures_of block = words_from fields_at amount_count block ++ fields_from leads_at wide_count block

-- why a foods block is refused
abbrev pub foods_refusals : List ℕ → List ℕ
foods_refusals block =
    unless (eqb (length block) block_bytes) 1
    ∷ block_refusal block foods_form
    ∷ unless (shares_fit (figures_of block)) 10
    ∷ unless (amounts_fit (figures_of block)) 11
    ∷ []

unfoldable pub foods_refusal : List ℕ → ℕ
foods_refusal block = first_of (foods_refusals block)

-- the figures beside a refusal
abbrev pub blank_figures : List ℕ
blank_figures = replicate figure_count 0

-- the figures that reading a block leaves
unfoldable pub foods_figures : List ℕ → List ℕ
foods_figures block = answer_by (foods_refusal block) (figures_of block) (λ r. blank_figures)
