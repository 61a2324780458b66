-- `site::limits::within_limits` meets its contract: the constant list is that of the definition.
use Rattle.std.proofs.Common.{◌∙◌}
use Rattle.site.specs.Fields.{limits}
use Rattle.site.proofs.FieldTests.{side_by_side}
use Rattle.site.proofs.limits.within_limits.Goals as goal

pub returns : goal.returns
unfolding limits
returns c = c.none_above.ensures ∙ side_by_side c.args.fields.now c.told-fields
