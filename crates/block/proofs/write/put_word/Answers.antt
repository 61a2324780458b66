-- `block::write::put_word` meets its contract: the two bytes copied over their part are stored there.
use Rattle.block.specs.Writer.{le16}
use Rattle.block.proofs.Writer.{copied_stored}
use Rattle.block.proofs.Laid.{length-le16}
use Rattle.block.proofs.write.put_word.Goals as goal

pub returns : goal.returns
unfolding le16
returns c = copied_stored c.args.target.now c.args.at 2 {v = le16 c.args.word} (cc) (length-le16 c.args.word) c.requires
