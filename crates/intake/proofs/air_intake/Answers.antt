-- `intake::air_intake` meets its contract: each product fits within the limits of an exposure.
use native.Mathlib.Omega.{arith}
use Rattle.intake.proofs.Fits.{breathed_most}
use Rattle.intake.proofs.air_intake.Goals as goal

pub overflow_mul-result : goal.overflow_mul-result
overflow_mul-result c = omega (arith, breathed_most c.args.limited.now.within)
