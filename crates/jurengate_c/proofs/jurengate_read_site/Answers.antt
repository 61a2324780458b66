-- `jurengate_c::jurengate_read_site` meets its contract: the fields read, or zeros.
use Rattle.std.proofs.Common.{ap, ◌∙◌}
use Rattle.refusal.specs.Refusal.{number_in}
use Rattle.site.specs.SiteRead.{SiteRead}
use Rattle.site.specs.Scenario.{blank_scenario}
use Rattle.site.specs.Site.{refused_with}
use Rattle.jurengate_c.proofs.jurengate_read_site.Goals as goal
use Rattle.jurengate_c.proofs.jurengate_read_site.Goals.{in-Ok, in-Err}

pub returns-clause-value : goal.returns-clause-value
unfolding refused_with
returns-clause-value c =
    elim c.match-site_read.branch [
      | in-Ok w ↦ c.number_in.ensures ∙ ap number_in w.site_read-is ∙ ap (λ (x : SiteRead). x.refusal) w.in-Ok.ensures
      | in-Err w ↦ c.number_in.ensures ∙ ap number_in (w.site_read-is ∙ w.in-Err.is) ∙ ap (λ (x : SiteRead). x.refusal) w.in-Err.ensures
    ]

pub returns-clause-fields_after : goal.returns-clause-fields_after
unfolding refused_with blank_scenario
returns-clause-fields_after c =
    elim c.match-site_read.branch [
      | in-Ok w ↦ w.fields-is ∙ ap (λ (x : SiteRead). x.scenario.fields) w.in-Ok.ensures
      | in-Err w ↦ w.fields-is ∙ ap (λ (x : SiteRead). x.scenario.fields) w.in-Err.ensures
    ]
