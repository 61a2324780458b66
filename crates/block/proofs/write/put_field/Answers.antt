-- `block::write::put_field` meets its contract: the four bytes copied over their part are stored there.
use Rattle.block.specs.Writer.{le32}
use Rattle.block.proofs.Writer.{length-le32, copied_stored}
use Rattle.block.proofs.write.put_field.Goals as goal

pub returns : goal.returns
unfolding le32
returns c = copied_stored c.args.target.now c.args.at 4 {v = le32 c.args.field} (cc) (length-le32 c.args.field) c.requires
