-- The fields and the scenario of a site file with a card's figures put over its own.
-- Assumes nothing.
use Rattle.std.specs.Prelude.{ℕ, List, Option, None, Some}
use Rattle.site.specs.Fields.{air_group, soil_group, dust_group, alternate_group, dust_mode_at, water_mode_at, constant_at, absorbed_dust_at, absorbed_soil_at}
use Rattle.site.specs.Put.{every_age, singly}
use Rattle.site.specs.declared.Scenario.{Scenario}
use Rattle.site.specs.Scenario.{scenario_of, with_diets}
use Rattle.card.specs.declared.Card.{Card}
use Rattle.card.specs.Values.{soil_in, dust_in}

-- a value put in, where it is given; a gap keeps the site file's own
abbrev pub given : (ℕ → List ℕ → List ℕ) → Option ℕ → List ℕ → List ℕ
given put None fields = fields
given put (Some n) fields = put n fields

-- soil and dust, of which a missing one copies the other; air and alternate; constant water
unfoldable pub media_fields : Card → List ℕ → List ℕ
media_fields c fields =
    given (singly constant_at) c.water
    (given (every_age alternate_group) c.other
    (given (every_age air_group) c.air
    (given (every_age dust_group) (dust_in c)
    (given (every_age soil_group) (soil_in c) fields))))

-- and the absorbed percentages of soil and dust; both modes are 0, even at a gap
unfoldable pub row_fields : Card → List ℕ → List ℕ
row_fields c fields =
    singly water_mode_at 0
    (singly dust_mode_at 0
    (given (singly absorbed_dust_at) c.absdust
    (given (singly absorbed_soil_at) c.abssoil (media_fields c fields))))

-- the scenario of a row: that of its fields, with the places and the diets that the files give
unfoldable pub row_scenario : Card → Scenario → Scenario
row_scenario c s = with_diets s.diets (scenario_of (row_fields c s.fields) s.dust_places)
