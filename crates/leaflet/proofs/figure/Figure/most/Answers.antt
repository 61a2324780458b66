-- `leaflet::figure::Figure::most` meets its contract: the limit is the entry of the site's list.
use Rattle.site.specs.Fields.{limits}
use Rattle.leaflet.proofs.FigureFields.{most_of_lem}
use Rattle.leaflet.proofs.figure.Figure.most.Goals as goal

pub returns : goal.returns
unfolding limits
returns c = most_of_lem c.args.self.number c.args.self.within c.place.ensures
