-- `block::write::put_fields` meets its contract: the fields passed are stored one after the other.
use Rattle.block.proofs.BodyStores.{stored_none, stored_next, stored_all}
use Rattle.block.proofs.write.put_fields.Goals as goal

pub loop-k-init : goal.loop-k-init
loop-k-init c = stored_none _ _ _

pub loop-k-preserved : goal.loop-k-preserved
loop-k-preserved c = stored_next c.loop-k.invariant c.loop-k-test.true c.put_field.ensures

pub returns : goal.returns
returns c = stored_all c.loop-k.invariant c.loop-k-test.false
