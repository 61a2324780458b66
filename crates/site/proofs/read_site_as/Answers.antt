-- `site::read_site_as` meets its contract: a wrong length, or what the block is read as.
use Rattle.site.proofs.ReadAnswers.{read_length}
use Rattle.site.proofs.read_site_as.Goals as goal

pub returns-in_default : goal.returns-in_default
returns-in_default c = read_length c.args.edition c.args.site.now c.in_default.ensures.1
