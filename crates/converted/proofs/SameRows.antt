-- Where no share is above 0, a row of a batch card answers the same without the figures of the places.
-- Assumes nothing.
use mathlib.Core.Path.{◌≡◌, refl, ap}
use mathlib.Core.List.{List}
use Prim.Native.Nat.{ℕ}
use Rattle.site.specs.declared.Scenario.{Scenario}
use Rattle.site.specs.Limits.{AtHome}
use Rattle.site.specs.Scenario.{scenario_of, without_places}
use Rattle.card.specs.declared.Card.{Card}
use Rattle.card.specs.Values.{months_of}
use Rattle.cardsite.specs.Start.{Start}
use Rattle.cardsite.specs.Start as start
use Rattle.cardsite.specs.Fields.{row_scenario}
use Rattle.survey.specs.Survey.{course_answer, card_answer, start_answer}
use Rattle.converted.proofs.SameChild.{same_course}

-- a row changes no place
row_without : (c : Card) (p : Scenario) → row_scenario c (without_places p) ≡ without_places (row_scenario c p)
unfolding row_scenario scenario_of
row_without c p = refl

row_home : (c : Card) (p : Scenario) → AtHome p.dust_places → AtHome (row_scenario c p).dust_places
unfolding row_scenario scenario_of
row_home c p home = home

module _ (p : Scenario) (home : AtHome p.dust_places) (table : List ℕ) (s : ℕ) where
  same_card : (c : Card) → card_answer s (without_places p) table c ≡ card_answer s p table c
  unfolding card_answer
  same_card c = rw (row_without c p) (ap course_answer (same_course (row_scenario c p) table (row_home c p home) s (months_of c.age)))

  pub same_start : (x : Start) → start_answer s (without_places p) table x ≡ start_answer s p table x
  same_start (start.Runs c) = same_card c
  same_start start.Skipped = refl
  same_start (start.Refused n) = refl
