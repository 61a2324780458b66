-- What the code keeps of a run, as the definitions have it: a refusal by its number.
-- Assumes nothing.
use Rattle.refusal.specs.Refusal.{number_in}
use Rattle.routes.specs.MonthlySums.{by_route}
use Rattle.printout.specs.declared.prepared.Prepared as code
use Rattle.printout.specs.Kept.{Prepared}

abbrev pub prepared_in : code.Prepared → Prepared
prepared_in p = record { refusal = number_in p.end; months = p.months; blood = p.blood; sums = by_route p.sums }
