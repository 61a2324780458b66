-- A row's own refusal 7: one of its figures is over its site limit.
-- Assumes nothing.
use Rattle.std.specs.Prelude.{ℕ, Bool, false, ◌||◌, ltb, Option, None, Some}
use Rattle.site.specs.Fields.{limits, by_age, single, air_group, soil_group, dust_group, alternate_group, constant_at, absorbed_dust_at, absorbed_soil_at}
use Rattle.card.specs.declared.Card.{Card}

-- a figure is over a limit; a gap is not
abbrev pub over : ℕ → Option ℕ → Bool
over limit None = false
over limit (Some n) = ltb limit n

-- over the site limit of a group's fields, and of a single field
abbrev pub over_ages : ℕ → Option ℕ → Bool
over_ages g v = over (by_age limits g 0) v

abbrev pub over_single : ℕ → Option ℕ → Bool
over_single k v = over (single limits k) v

-- one of the seven figures is over its site limit
unfoldable pub over_limit : Card → Bool
over_limit c =
    over_ages soil_group c.soil
    || over_ages dust_group c.dust
    || over_single constant_at c.water
    || over_ages air_group c.air
    || over_ages alternate_group c.other
    || over_single absorbed_soil_at c.abssoil
    || over_single absorbed_dust_at c.absdust
