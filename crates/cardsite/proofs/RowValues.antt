-- A card over fields: what stands at each place, and so in each exposure.
-- Assumes nothing.
use mathlib.Core.Path.{◌≡◌, refl, ap, ◌∙◌}
use mathlib.Core.Bool.{cond}
use mathlib.Core.List.{List}
use Prim.Native.Nat.{ℕ, ◌+◌, ◌*◌, ◌≤◌, ◌<◌}
use native.Mathlib.Omega.{arith}
use native.Mathlib.Decide.{ℕ_discrete}
use borrow.Author.Tests.{eq-eqb, ne_eqb}
use lib.Dec.{eqb}
use lib.ListN.{length, length-set}
use Rattle.site.specs.Fields.{last_age, ages, groups, singles_at, field_count, singles, at, by_age, single, air_group, soil_group, dust_group, alternate_group, dust_mode_at, water_mode_at, constant_at, absorbed_dust_at, absorbed_soil_at, mother_at}
use Rattle.site.specs.Put.{every_age, singly}
use Rattle.site.specs.Scenario.{scenario_of}
use Rattle.site.proofs.PutFits.{every_age_puts, singly_puts, put_from_long}
use Rattle.exposure.specs.Exposure.{exposure_at}
use Rattle.std.specs.Prelude.{Option, None, Some}
use Rattle.card.specs.declared.Card.{Card}
use Rattle.card.specs.Values.{soil_in, dust_in}
use Rattle.cardsite.specs.Fields.{given, media_fields, row_fields, row_scenario}
use Rattle.cardsite.specs.RowExposure.{or_own}
use Rattle.cardsite.specs.Laws.{RowExposures, RowMother}

-- a value put in where it is given, at a place that it is for, or at another
abbrev chosen : ℕ → ℕ → Option ℕ → ℕ → ℕ
chosen here there v own = cond (eqb here there) (or_own v own) own

chosen_here : (here there : ℕ) (v : Option ℕ) (own : ℕ) → here ≡ there → or_own v own ≡ chosen here there v own
chosen_here here there v own e = rw (eq-eqb here there e)

chosen_other : (here there : ℕ) (v : Option ℕ) (own : ℕ) → (here ≡ there → ⊥) → own ≡ chosen here there v own
chosen_other here there v own n = rw (ne_eqb here there n)

abbrev Long : List ℕ → Type 0
Long fields = length fields ≡ field_count

-- at every age of group h
module _ (fields : List ℕ) (long : Long fields) (h : ℕ) (room : h < groups) where
  ages_long : (v : Option ℕ) → Long (given (every_age h) v fields)
  ages_long None = long
  ages_long (Some n) = put_from_long fields (ages * h) n ages ∙ long

  ages_same : (v : Option ℕ) (age : ℕ) → age ≤ last_age → by_age (given (every_age h) v fields) h age ≡ or_own v (by_age fields h age)
  ages_same None age l = refl
  ages_same (Some n) age l = (every_age_puts fields long h room n).stands age l

  ages-other : (v : Option ℕ) (place : ℕ) → ((age : ℕ) → age ≤ last_age → place ≡ ages * h + age → ⊥) → at (given (every_age h) v fields) place ≡ at fields place
  ages-other None place other = refl
  ages-other (Some n) place other = (every_age_puts fields long h room n).keeps place other

  ages_by_age : (v : Option ℕ) (g age : ℕ) → age ≤ last_age → by_age (given (every_age h) v fields) g age ≡ chosen g h v (by_age fields g age)
  ages_by_age v g age l =
      elim (ℕ_discrete g h) [
        | yes e ↦ rw e (ages_same v age l ∙ chosen_here h h v (by_age fields h age) refl)
        | no n ↦ ages-other v (ages * g + age) (λ a m e. n (omega arith)) ∙ chosen_other g h v (by_age fields g age) n
      ]

  ages-single : (v : Option ℕ) (k : ℕ) → single (given (every_age h) v fields) k ≡ single fields k
  ages-single v k = ages-other v (singles_at + k) (λ a l e. omega arith)

-- singly, at field j of those that stand so
module _ (fields : List ℕ) (long : Long fields) (j : ℕ) (room : j < singles) where
  single_long : (v : Option ℕ) → Long (given (singly j) v fields)
  single_long None = long
  single_long (Some n) = length-set fields (singles_at + j) n ∙ long

  single-other : (v : Option ℕ) (place : ℕ) → (place ≡ singles_at + j → ⊥) → at (given (singly j) v fields) place ≡ at fields place
  single-other None place other = refl
  single-other (Some n) place other = (singly_puts fields long j room n).keeps place other

  single_same : (v : Option ℕ) → single (given (singly j) v fields) j ≡ or_own v (single fields j)
  single_same None = refl
  single_same (Some n) = (singly_puts fields long j room n).stands

  single-single : (v : Option ℕ) (k : ℕ) → single (given (singly j) v fields) k ≡ chosen k j v (single fields k)
  single-single v k =
      elim (ℕ_discrete k j) [
        | yes e ↦ rw e (single_same v ∙ chosen_here j j v (single fields j) refl)
        | no n ↦ single-other v (singles_at + k) (λ e. n (omega arith)) ∙ chosen_other k j v (single fields k) n
      ]

  single_by_age : (v : Option ℕ) (g age : ℕ) → g < groups → age ≤ last_age → by_age (given (singly j) v fields) g age ≡ by_age fields g age
  single_by_age v g age r l = single-other v (ages * g + age) (λ e. omega arith)

-- a card's figures, one after the other
module _ (c : Card) (fields : List ℕ) (long : Long fields) where
  abbrev f₁ : List ℕ
  f₁ = given (every_age soil_group) (soil_in c) fields

  abbrev f₂ : List ℕ
  f₂ = given (every_age dust_group) (dust_in c) f₁

  abbrev f₃ : List ℕ
  f₃ = given (every_age air_group) c.air f₂

  abbrev f₄ : List ℕ
  f₄ = given (every_age alternate_group) c.other f₃

  abbrev f₅ : List ℕ
  f₅ = given (singly constant_at) c.water f₄

  abbrev f₆ : List ℕ
  f₆ = given (singly absorbed_soil_at) c.abssoil f₅

  abbrev f₇ : List ℕ
  f₇ = given (singly absorbed_dust_at) c.absdust f₆

  abbrev f₈ : List ℕ
  f₈ = singly dust_mode_at 0 f₇

  l₁ : Long f₁
  l₁ = ages_long fields long soil_group (omega arith) (soil_in c)

  l₂ : Long f₂
  l₂ = ages_long f₁ l₁ dust_group (omega arith) (dust_in c)

  l₃ : Long f₃
  l₃ = ages_long f₂ l₂ air_group (omega arith) c.air

  l₄ : Long f₄
  l₄ = ages_long f₃ l₃ alternate_group (omega arith) c.other

  l₅ : Long f₅
  l₅ = single_long f₄ l₄ constant_at (omega arith) c.water

  l₆ : Long f₆
  l₆ = single_long f₅ l₅ absorbed_soil_at (omega arith) c.abssoil

  l₇ : Long f₇
  l₇ = single_long f₆ l₆ absorbed_dust_at (omega arith) c.absdust

  l₈ : Long f₈
  l₈ = single_long f₇ l₇ dust_mode_at (omega arith) (Some 0)

  -- what stands for an age of group g, and at field k of those that stand singly
  abbrev row_group : ℕ → ℕ → ℕ
  row_group g own = chosen g alternate_group c.other (chosen g air_group c.air (chosen g dust_group (dust_in c) (chosen g soil_group (soil_in c) own)))

  abbrev row_single : ℕ → ℕ → ℕ
  row_single k own =
      chosen k water_mode_at (Some 0)
      (chosen k dust_mode_at (Some 0)
      (chosen k absorbed_dust_at c.absdust
      (chosen k absorbed_soil_at c.abssoil (chosen k constant_at c.water own))))

  row_by_age : (g : ℕ) → g < groups → (age : ℕ) → age ≤ last_age → by_age (row_fields c fields) g age ≡ row_group g (by_age fields g age)
  unfolding row_fields media_fields
  row_by_age g r age l =
      single_by_age f₈ l₈ water_mode_at (omega arith) (Some 0) g age r l
      ∙ single_by_age f₇ l₇ dust_mode_at (omega arith) (Some 0) g age r l
      ∙ single_by_age f₆ l₆ absorbed_dust_at (omega arith) c.absdust g age r l
      ∙ single_by_age f₅ l₅ absorbed_soil_at (omega arith) c.abssoil g age r l
      ∙ single_by_age f₄ l₄ constant_at (omega arith) c.water g age r l
      ∙ ages_by_age f₃ l₃ alternate_group (omega arith) c.other g age l
      ∙ ap (chosen g alternate_group c.other)
      (ages_by_age f₂ l₂ air_group (omega arith) c.air g age l
      ∙ ap (chosen g air_group c.air)
      (ages_by_age f₁ l₁ dust_group (omega arith) (dust_in c) g age l
      ∙ ap (chosen g dust_group (dust_in c)) (ages_by_age fields long soil_group (omega arith) (soil_in c) g age l)))

  row_single_lem : (k : ℕ) → single (row_fields c fields) k ≡ row_single k (single fields k)
  unfolding row_fields media_fields
  row_single_lem k =
      single-single f₈ l₈ water_mode_at (omega arith) (Some 0) k
      ∙ ap (chosen k water_mode_at (Some 0))
      (single-single f₇ l₇ dust_mode_at (omega arith) (Some 0) k
      ∙ ap (chosen k dust_mode_at (Some 0))
      (single-single f₆ l₆ absorbed_dust_at (omega arith) c.absdust k
      ∙ ap (chosen k absorbed_dust_at c.absdust)
      (single-single f₅ l₅ absorbed_soil_at (omega arith) c.abssoil k
      ∙ ap (chosen k absorbed_soil_at c.abssoil)
      (single-single f₄ l₄ constant_at (omega arith) c.water k
      ∙ ap (chosen k constant_at c.water)
      (ages-single f₃ l₃ alternate_group (omega arith) c.other k
      ∙ ages-single f₂ l₂ air_group (omega arith) c.air k
      ∙ ages-single f₁ l₁ dust_group (omega arith) (dust_in c) k
      ∙ ages-single fields long soil_group (omega arith) (soil_in c) k)))))

pub row_mother : RowMother
unfolding row_scenario scenario_of
row_mother c s long = row_single_lem c s.fields long mother_at

pub row_exposures : RowExposures
unfolding row_scenario scenario_of exposure_at
row_exposures c s long age l =
    let group : (g : ℕ) → g < groups → by_age (row_fields c s.fields) g age ≡ row_group c s.fields long g (by_age s.fields g age) =
    λ g r. row_by_age c s.fields long g r age l in
    let one = row_single_lem c s.fields long in
    rw (
      group 0 (omega arith),
      group 1 (omega arith),
      group 2 (omega arith),
      group 3 (omega arith),
      group 5 (omega arith),
      group 6 (omega arith),
      group 7 (omega arith),
      group 8 (omega arith),
      group 9 (omega arith),
      one 0,
      one 1,
      one 2,
      one 3,
      one 4,
      one 5,
      one 6,
      one 7,
      one 8,
      one 9,
      one 10,
      one 11,
      one 12,
      one 13,
      one 14,
      one 15,
      one 16,
      one 17,
      one 18,
      one 19,
      one 20,
      one 21,
      one 22,
    )
