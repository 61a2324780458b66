-- A row that passes its tests is within its limits.
-- Assumes nothing.
use mathlib.Core.Path.{◌≡◌}
use mathlib.Core.Bool.{true}
use Prim.Native.Nat.{◌+◌, ◌*◌, ◌/◌, ◌≤◌}
use native.Mathlib.Omega.{arith}
use lib.Dec.{leb}
use borrow.Author.Tests.{leb-true, ltb-true}
use Rattle.numbers.specs.Sums.{sum_to}
use Rattle.numbers.proofs.Every.{and_both, every-at}
use Rattle.row.specs.declared.Rates.{Rates}
use Rattle.row.specs.declared.Row.{Row}
use Rattle.row.specs.Row.{unit, out, back, exit, volumes_fit, weights_fit, returns_fit, rates_fit, row_fits}
use Rattle.row.specs.Limits.{RateLimits, RowLimits}
use Rattle.row.specs.Laws.{RowWithin}
use Rattle.row.proofs.RowTests.{return_fits}

-- rates that pass are within their limits
module _ (r : Rates) (fit : rates_fit r ≡ true) where
  rate-tests :
      (leb 1 (out r 0) ≡ true)
      × ((leb (sum_to 6 (out r) + r.urine) (64 * unit) ≡ true)
      × ((returns_fit r ≡ true) × ((leb r.faeces (unit / 2) ≡ true) × (leb r.skin (unit / 2) ≡ true))))
  unfolding rates_fit
  rate-tests =
      let a = and_both _ _ fit in
      let b = and_both _ _ a.1 in
      let c = and_both (returns_fit r) _ b.1 in
      let d = and_both _ _ c.1 in
      (a.0, (b.0, (c.0, d)))

  red_cells_ge : 1 ≤ out r 0
  red_cells_ge = leb-true _ _ rate-tests.0

  rate_limits : RateLimits r
  unfolding returns_fit
  rate_limits =
      let t = rate-tests in
      record {
        total = leb-true _ _ t.1.0;
        each = λ i h. leb-true (back r i + exit r i) unit (every-at (return_fits r) 0 6 t.1.1.0 i (omega arith) (omega arith));
        faeces = omega (arith, leb-true r.faeces (unit / 2) t.1.1.1.0);
        skin = omega (arith, leb-true r.skin (unit / 2) t.1.1.1.1);
      }

-- a row that passes is within its limits
module _ (w : Row) (fit : row_fits w ≡ true) where
  row_tests : (volumes_fit w ≡ true) × ((weights_fit w ≡ true) × (rates_fit w.rates ≡ true))
  unfolding row_fits
  row_tests =
      let a = and_both (volumes_fit w) _ fit in
      (a.0, and_both (weights_fit w) _ a.1)

  row_limits : RowLimits w
  unfolding volumes_fit weights_fit
  row_limits =
      let t = row_tests in
      let v1 = and_both _ _ t.0 in
      let v2 = and_both _ _ v1.1 in
      let v3 = and_both _ _ v2.1 in
      let w1 = and_both _ _ t.1.0 in
      let w2 = and_both _ _ w1.1 in
      let w3 = and_both _ _ w2.1 in
      let w4 = and_both _ _ w3.1 in
      let w5 = and_both _ _ w4.1 in
      let w6 = and_both _ _ w5.1 in
      record {
        blood_least = leb-true _ _ v1.0;
        blood_most = leb-true _ _ v2.0;
        plasma_least = leb-true _ _ v3.0;
        plasma_most = ltb-true _ _ v3.1;
        body_least = leb-true _ _ w1.0;
        body_most = leb-true _ _ w2.0;
        kidney = leb-true _ _ w3.0;
        liver = leb-true _ _ w4.0;
        other = leb-true _ _ w5.0;
        trabecular = leb-true _ _ w6.0;
        cortical = leb-true _ _ w6.1;
        red_cells = red_cells_ge w.rates t.1.1;
        rates = rate_limits w.rates t.1.1;
      }

pub row_within : RowWithin
row_within = row_limits
