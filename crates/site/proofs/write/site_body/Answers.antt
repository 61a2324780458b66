-- `site::write::site_body` meets its contract: in edition 2 the places' fields are stored behind the others.
use Rattle.std.proofs.Common.{rules, ap, ◌∙◌}
use Rattle.block.specs.declared.Form.{Form}
use Rattle.block.specs.Writer.{body_of}
use Rattle.site.specs.Site.{site_form}
use Rattle.site.proofs.SiteBodies.{second_body}
use Rattle.site.proofs.write.site_body.Goals as goal

pub returns-in-Second : goal.returns-in-Second
returns-in-Second c =
    rw c.in-Second.is
    (second_body c.args.fields.now c.args.places.now (search rules) (search rules)
    (c.body_of-body.ensures ∙ ap (λ (form : Form). body_of form c.args.fields.now) (c.form.ensures ∙ ap site_form c.in-Second.is))
    (rw c.fields_of.ensures at c.put_fields.ensures))
