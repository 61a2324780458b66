-- `blood::figure::blood_figure` meets its contract: the products fit, and the figure is far below 2^32.
use mathlib.Core.Path.{refl}
use native.Mathlib.Omega.{arith}
use Rattle.blood.specs.Blood.{ecf_volume, plasma_part, blood_of}
use Rattle.numbers.proofs.Bounds.{is}
use Rattle.blood.proofs.FigureFits.{blood_lead_le, blood_law}
use Rattle.blood.proofs.figure.blood_figure.Goals as goal

pub overflow_add-figure : goal.overflow_add-figure
unfolding ecf_volume plasma_part
overflow_add-figure c = omega (arith, blood_lead_le c.args.state.now.lead c.requires.row c.requires.burden)

pub overflow_cast-result : goal.overflow_cast-result
unfolding ecf_volume plasma_part blood_of
overflow_cast-result c = omega (arith, blood_law c.args.row.now c.args.state.now.lead c.requires.row c.requires.burden)

pub returns : goal.returns
unfolding ecf_volume plasma_part blood_of
returns c = is refl (blood_law c.args.row.now c.args.state.now.lead c.requires.row c.requires.burden)
