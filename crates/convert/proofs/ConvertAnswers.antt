-- The converter's ways out, in their order.
-- Assumes nothing.
use mathlib.Core.Path.{◌≡◌, refl, sym, ap, ◌∙◌}
use mathlib.Core.Bool.{Bool, true, false}
use mathlib.Core.List.{List, [], ◌∷◌}
use Prim.Native.Nat.{ℕ}
use native.Mathlib.Omega.{arith}
use borrow.Author.Tests.{eq-eqb, ne_eqb}
use lib.ListN.{length}
use Rattle.numbers.specs.Choice.{unless, first_of}
use Rattle.numbers.proofs.Every.{length-tab}
use Rattle.numbers.proofs.Refusals.{not_zero, or_else_first, or_else-last}
use Rattle.block.specs.Block.{block_bytes, fields_at, check_at, numbers_from}
use Rattle.block.specs.Writer.{writer_refusal, written}
use Rattle.block.proofs.BlockRefusals.{field_from}
use Rattle.block.proofs.Writer.{is_writable}
use Rattle.block.proofs.Sealed.{written-sealed}
use Rattle.site.specs.declared.edition.Edition.{Edition}
use Rattle.site.specs.declared.edition.Edition.TheVariants.{First, Second}
use Rattle.site.specs.declared.dust_places.DustPlace.{DustPlace}
use Rattle.site.specs.declared.Scenario.{Scenario}
use Rattle.site.specs.SiteRead.{SiteRead}
use Rattle.site.specs.Fields.{field_count}
use Rattle.site.specs.DustPlaces.{no_places, at_home}
use Rattle.site.specs.Scenario.{scenario_of}
use Rattle.site.specs.Site.{site_fields, site_places, site_refusal_as, refused_with, read_site_as}
use Rattle.site.specs.Written.{site_body}
use Rattle.site.proofs.FieldsWithin.{read_refusal_as, within_passed, scenario_as}
use Rattle.site.proofs.ReadBack.{no_places_laid}
use Rattle.convert.specs.Convert.{to_second_refusal, to_first_refusal, in_edition, filled, to_second, to_first}

-- a refusal is answered, and leaves the target; a file made is answered with 0
abbrev pub Answered : ℕ → List ℕ → List ℕ → ℕ → List ℕ → Type 0
Answered refusal file target r after = (r ≡ refusal) × (after ≡ filled refusal file target)

kept : {refusal : ℕ} (file target : List ℕ) (r : ℕ) → refusal ≡ r → (r ≡ 0 → ⊥) → Answered refusal file target r target
kept file target r e h = rw e (refl, not_zero (λ n. target ≡ filled n file target) (λ n. refl) r h)

made : {refusal r : ℕ} {file after : List ℕ} (target : List ℕ) → refusal ≡ 0 → r ≡ 0 → after ≡ file → Answered refusal file target r after
made target e z f = rw (e, z) (refl, f)

pub fields_long : (site : List ℕ) → length (site_fields site) ≡ field_count
unfolding numbers_from
fields_long site = length-tab field_count (field_from fields_at site)

-- what the reader answered
module _ (from : Edition) (site : List ℕ) where
  pub refused_is : {r : ℕ} → refused_with r ≡ read_site_as from site → r ≡ site_refusal_as from site
  unfolding refused_with
  refused_is e = ap (λ (x : SiteRead). x.refusal) e ∙ read_refusal_as from site

  module _ {scenario : Scenario} (read : ◌≡◌ {A = SiteRead} (record { refusal = 0; scenario = scenario }) (read_site_as from site)) where
    pub passed : site_refusal_as from site ≡ 0
    passed = sym (ap (λ (x : SiteRead). x.refusal) read ∙ read_refusal_as from site)

    scenario_is : scenario ≡ scenario_of (site_fields site) (site_places site)
    scenario_is = ap (λ (x : SiteRead). x.scenario) read ∙ scenario_as from site passed

    fields_are : scenario.fields ≡ site_fields site
    unfolding scenario_of
    fields_are = ap (λ (s : Scenario). s.fields) scenario_is

    pub places_are : scenario.dust_places ≡ site_places site
    unfolding scenario_of
    places_are = ap (λ (s : Scenario). s.dust_places) scenario_is

    -- and the file that is written of it
    module _ (to : Edition) (target : List ℕ) (room : length target ≡ block_bytes) where
      long : length (site_body to (site_fields site) no_places) ≡ check_at
      long = (no_places_laid to (site_fields site) (fields_long site) (within_passed from site passed).fields_fit).passes.long

      pub wrote : {r : ℕ} → r ≡ writer_refusal (site_body to scenario.fields no_places) target → r ≡ 0
      unfolding unless
      wrote e =
          e
          ∙ ap (λ (f : List ℕ). writer_refusal (site_body to f no_places) target) fields_are
          ∙ rw (is_writable (site_body to (site_fields site) no_places) target long room)

      pub wrote_is : {after : List ℕ} → after ≡ written (site_body to scenario.fields no_places) target → after ≡ in_edition to site
      unfolding in_edition
      wrote_is e =
          e
          ∙ ap (λ (f : List ℕ). written (site_body to f no_places) target) fields_are
          ∙ written-sealed (site_body to (site_fields site) no_places) target long room

-- from 1 to 2
module _ (site target : List ℕ) where
  abbrev pub Second_answered : ℕ → List ℕ → Type 0
  Second_answered r after = (r ≡ to_second_refusal site target) × (after ≡ to_second site target)

  pub second_length : (length target ≡ block_bytes → ⊥) → Second_answered 1 target
  unfolding to_second to_second_refusal unless
  second_length h = kept (in_edition Second site) target 1 (rw (ne_eqb (length target) block_bytes h)) (λ e. omega arith)

  module _ (room : length target ≡ block_bytes) where
    second_by_site : to_second_refusal site target ≡ site_refusal_as First site
    unfolding to_second_refusal unless
    second_by_site = rw (eq-eqb (length target) block_bytes room) (or_else-last (site_refusal_as First site))

    pub second_refused : (r : ℕ) → (r ≡ 0 → ⊥) → refused_with r ≡ read_site_as First site → Second_answered r target
    unfolding to_second
    second_refused r h e = kept (in_edition Second site) target r (second_by_site ∙ sym (refused_is First site e)) h

    pub second_made : {scenario : Scenario} → ◌≡◌ {A = SiteRead} (record { refusal = 0; scenario = scenario }) (read_site_as First site) → {r : ℕ}
        {after : List ℕ} → r ≡ writer_refusal (site_body Second scenario.fields no_places) target
        → after ≡ written (site_body Second scenario.fields no_places) target → Second_answered r after
    unfolding to_second
    second_made read a b = made target (second_by_site ∙ passed First site read) (wrote First site read Second target room a) (wrote_is First site read Second target room b)

-- from 2 to 1
module _ (site target : List ℕ) where
  abbrev pub First_answered : ℕ → List ℕ → Type 0
  First_answered r after = (r ≡ to_first_refusal site target) × (after ≡ to_first site target)

  pub first_length : (length target ≡ block_bytes → ⊥) → First_answered 1 target
  unfolding to_first to_first_refusal unless
  first_length h = kept (in_edition First site) target 1 (rw (ne_eqb (length target) block_bytes h)) (λ e. omega arith)

  module _ (room : length target ≡ block_bytes) where
    pub first_refused : (r : ℕ) → (r ≡ 0 → ⊥) → refused_with r ≡ read_site_as Second site → First_answered r target
    unfolding to_first to_first_refusal unless
    first_refused r h e =
        kept (in_edition First site) target r
        (rw (eq-eqb (length target) block_bytes room, sym (refused_is Second site e)) (or_else_first r _ h)) h

    module _ {scenario : Scenario} (read : ◌≡◌ {A = SiteRead} (record { refusal = 0; scenario = scenario }) (read_site_as Second site)) {home : Bool}
        (tested : home ≡ at_home scenario.dust_places) where
      by_home : to_first_refusal site target ≡ unless home 14
      unfolding to_first_refusal unless
      by_home =
          let same : at_home (site_places site) ≡ home = ap at_home (sym (places_are Second site read)) ∙ sym tested in
          rw (eq-eqb (length target) block_bytes room, passed Second site read, same) (or_else-last (unless home 14))

      pub first_away : home ≡ false → First_answered 14 target
      unfolding to_first unless
      first_away e = kept (in_edition First site) target 14 (by_home ∙ rw e) (λ z. omega arith)

      pub first_made : home ≡ true → {r : ℕ} {after : List ℕ} → r ≡ writer_refusal (site_body First scenario.fields no_places) target
          → after ≡ written (site_body First scenario.fields no_places) target → First_answered r after
      unfolding to_first unless
      first_made e a b = made target (by_home ∙ rw e) (wrote Second site read First target room a) (wrote_is Second site read First target room b)
