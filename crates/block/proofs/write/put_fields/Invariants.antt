-- `block::write::put_fields` meets its contract: the fields passed are stored one after the other.
use Rattle.block.proofs.BodyStores.{Stored}
use Rattle.block.proofs.write.put_fields.Given as goal

abbrev pub invariant-loop-k : goal.invariant-loop-k
invariant-loop-k l = Stored l.fn.fields l.initial.target l.target l.at l.k
