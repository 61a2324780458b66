-- The amounts at birth: they fit 64 bits, plasma and red cells are the blood total, and the state is put together from them.
-- Assumes nothing.
use mathlib.Core.Path.{◌≡◌, refl}
use mathlib.Core.List.{[], ◌∷◌}
use Prim.Native.Nat.{ℕ, ◌+◌, ◌-◌, ◌*◌, ◌/◌, ◌≤◌}
use native.Mathlib.Nat.{le_trans, le_of_eq, mul-le-mul, mul-le-mul_left, add-sub_of_le}
use native.Mathlib.Omega.{arith}
use Rattle.numbers.specs.Sums.{sum_to}
use Rattle.row.specs.declared.Row.{Row}
use Rattle.row.specs.Row.{unit, out, back}
use Rattle.row.specs.Limits.{RowLimits}
use Rattle.kinetics.specs.declared.State.{State}
use Rattle.kinetics.specs.Step.{burden}
use Rattle.blood.specs.Birth.{birth_blood, birth_total, birth_plasma, birth_red_cells, birth_organ, birth_lead, birth_state}
use Rattle.blood.specs.Laws.{BirthLaws}
use Rattle.kinetics.proofs.DivisorMargin.{part_le}

pub birth_blood_le : {mother : ℕ} → mother ≤ 100_000 → birth_blood mother ≤ 85_000
unfolding birth_blood
birth_blood_le h = omega arith

module _ {blood weight : ℕ} (ratio : ℕ) (hb : blood ≤ 85_000) (hw : weight ≤ 50_000) where
  pub organ_product_le : ratio * blood * weight ≤ ratio * 85_000 * 50_000
  organ_product_le = mul-le-mul (mul-le-mul_left ratio hb) hw

  organ_le : birth_organ ratio blood weight ≤ ratio * 425_000_000
  unfolding birth_organ
  organ_le = omega (arith, organ_product_le)

module _ {row : Row} (lim : RowLimits row) where
  red_cell_back_le : back row.rates 0 ≤ unit
  red_cell_back_le = omega (arith, lim.rates.each 0 (omega arith))

  pub red_cell_rates_fit : out row.rates 0 + back row.rates 0 ≤ 65 * unit
  unfolding sum_to
  red_cell_rates_fit = omega (arith, lim.rates.total, red_cell_back_le)

  -- the plasma's part of the blood total n × VB
  pub plasma_le_total : (n : ℕ) → n * row.blood_volume * back row.rates 0 / (out row.rates 0 + back row.rates 0) ≤ n * row.blood_volume
  plasma_le_total n = part_le (n * row.blood_volume) (omega arith) (omega (arith, lim.red_cells))

  -- n is PB
  module _ {mother n : ℕ} (h : mother ≤ 100_000) (e : n ≡ birth_blood mother) where
    pub total_fits : n * row.blood_volume ≤ 5_100_000_000
    total_fits = mul-le-mul (le_trans (le_of_eq e) (birth_blood_le h)) lim.blood_most

  blood_parts : (mother : ℕ) → birth_plasma row mother + birth_red_cells row mother ≡ birth_total row mother
  unfolding birth_plasma birth_red_cells birth_total
  blood_parts mother = add-sub_of_le (plasma_le_total (birth_blood mother))

  birth_total_le : {mother : ℕ} → mother ≤ 100_000 → birth_total row mother ≤ 5_100_000_000
  unfolding birth_total
  birth_total_le h = total_fits h refl

  birth_burden_le : {mother : ℕ} → mother ≤ 100_000 → burden (birth_lead row mother) ≤ 726_325_000_000
  unfolding birth_lead sum_to
  birth_burden_le {mother} h =
      let b = birth_blood_le h in
      omega (
        arith,
        blood_parts mother,
        birth_total_le h,
        organ_le 130 b lim.liver,
        organ_le 106 b lim.kidney,
        organ_le 160 b lim.other,
        organ_le 512 b lim.trabecular,
        organ_le 789 b lim.cortical,
      )

pub birth_law : BirthLaws
unfolding birth_state birth_lead
birth_law row mother lim h =
    record {
      month = refl;
      lead = refl;
      ledgers = refl;
      blood = blood_parts lim mother;
      bounded = birth_burden_le lim h;
    }

-- the state at birth from PB, n, and the five organs
pub birth_state_is : (row : Row) (mother : ℕ) {n l k o t c : ℕ} → n ≡ birth_blood mother
    → l ≡ birth_organ 130 n row.liver
    → k ≡ birth_organ 106 n row.kidney
    → o ≡ birth_organ 160 n row.other
    → t ≡ birth_organ 512 n row.trabecular
    → c ≡ birth_organ 789 n row.cortical
    → ◌≡◌ {A = State}
    (record {
      month = 0;
      lead =
          (n * row.blood_volume * back row.rates 0 / (out row.rates 0 + back row.rates 0))
          ∷ (n * row.blood_volume - n * row.blood_volume * back row.rates 0 / (out row.rates 0 + back row.rates 0))
          ∷ l ∷ k ∷ o ∷ t ∷ c ∷ [];
      ledgers = 0 ∷ 0 ∷ 0 ∷ [];
    })
    (birth_state row mother)
unfolding birth_state birth_lead birth_plasma birth_red_cells birth_total
birth_state_is row mother blood liver kidney other trabecular cortical = cc
