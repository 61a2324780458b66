-- `site::read_site` meets its contract: a wrong length, or what the block of the edition due is read as.
use Rattle.std.proofs.Common.{◌∙◌, sym}
use Rattle.site.specs.Site.{edition_due, read_in, read_site, read_site_as}
use Rattle.site.proofs.ReadAnswers.{read_length}
use Rattle.site.proofs.read_site.Goals as goal

pub returns-in_default : goal.returns-in_default
unfolding read_site
returns-in_default c = read_length (edition_due c.args.site.now) c.args.site.now c.in_default.ensures.1

pub returns : goal.returns
unfolding read_site
returns c =
    let array = c.in-Ok.ensures.1 in
    rw array.same at (rw c.due.ensures at c.read_block.ensures)
