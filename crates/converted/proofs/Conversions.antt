-- A file and what it is converted to are read alike, so they answer the same.
-- Assumes nothing.
use mathlib.Core.Path.{◌≡◌, refl}
use mathlib.Core.List.{List}
use Prim.Native.Nat.{ℕ}
use Rattle.site.specs.declared.edition.Edition.{Edition}
use Rattle.site.specs.declared.edition.Edition.TheVariants.{First, Second}
use Rattle.site.specs.Scenario.{scenario_of}
use Rattle.site.specs.Site.{site_refusal, site_refusal_as}
use Rattle.site.proofs.Editions.{of_edition}
use Rattle.site.proofs.FieldsWithin.{accepted_scenario}
use Rattle.convert.specs.Convert.{to_second, to_first}
use Rattle.convert.specs.Laws.{Converted}
use Rattle.convert.proofs.Conversions.{up, down}
use Rattle.converted.specs.Laws.{ReadAlike, UpSame, DownSame}
use Rattle.converted.proofs.SameAnswers.{same_law}

accepted_due : (edition : Edition) (site : List ℕ) → site_refusal_as edition site ≡ 0 → site_refusal site ≡ 0
unfolding site_refusal
accepted_due edition site passed = rw (of_edition edition site passed) passed

read_alike : (from to : Edition) (before after : List ℕ) → Converted from to before after → ReadAlike before after
unfolding scenario_of
read_alike from to before after c =
    let passed = accepted_due from before c.accepted_before in
    let passed_after = accepted_due to after c.accepted in
    record {
      accepted = passed;
      accepted_after = passed_after;
      home = rw (accepted_scenario before passed) c.home;
      same = rw (accepted_scenario after passed_after, accepted_scenario before passed, c.fields, c.places) refl;
    }

pub up_same : UpSame
up_same site target accepted = same_law site (to_second site target) (read_alike First Second site (to_second site target) (up site target accepted))

pub down_same : DownSame
down_same site target accepted = same_law site (to_first site target) (read_alike Second First site (to_first site target) (down site target accepted))
