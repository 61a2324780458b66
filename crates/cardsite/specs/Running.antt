-- A card that runs.
-- Assumes nothing.
use Rattle.std.specs.Prelude.{◌≡◌, false, ◌≤◌}
use Rattle.card.specs.declared.Card.{Card}
use Rattle.card.specs.Values.{months_of, skipped}
use Rattle.cardsite.specs.Over.{over_limit}

-- it is not skipped, none of its figures is over its limit, and it has an AGE from 1 to 84 months
pub record Running (c : Card) : Type 0 where
  pub runs : skipped c ≡ false
  pub within : over_limit c ≡ false
  pub first : 1 ≤ months_of c.age
  pub last : months_of c.age ≤ 84
