-- `jurengate_c::jurengate_read_places` meets its contract: the places read, or zeros.
use Rattle.std.proofs.Common.{ap, ◌∙◌}
use Rattle.refusal.specs.Refusal.{number_in}
use Rattle.site.specs.DustPlaces.{fields_of}
use Rattle.site.specs.SiteRead.{SiteRead}
use Rattle.site.specs.Scenario.{blank_scenario}
use Rattle.site.specs.Site.{refused_with}
use Rattle.jurengate_c.proofs.jurengate_read_places.Goals as goal
use Rattle.jurengate_c.proofs.jurengate_read_places.Goals.{in-Ok, in-Err}

pub returns-clause-value : goal.returns-clause-value
unfolding refused_with
returns-clause-value c =
    elim c.match-places_read.branch [
      | in-Ok w ↦ c.number_in.ensures ∙ ap number_in w.places_read-is ∙ ap (λ (x : SiteRead). x.refusal) w.in-Ok.ensures
      | in-Err w ↦ c.number_in.ensures ∙ ap number_in (w.places_read-is ∙ w.in-Err.is) ∙ ap (λ (x : SiteRead). x.refusal) w.in-Err.ensures
    ]

pub returns-clause-places_after : goal.returns-clause-places_after
unfolding refused_with blank_scenario
returns-clause-places_after c =
    elim c.match-places_read.branch [
      | in-Ok w ↦ w.places-is ∙ w.fields_of.ensures ∙ ap (λ (x : SiteRead). fields_of x.scenario.dust_places) w.in-Ok.ensures
      | in-Err w ↦ w.places-is ∙ ap (λ (x : SiteRead). fields_of x.scenario.dust_places) w.in-Err.ensures
    ]
