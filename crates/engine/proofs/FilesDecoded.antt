-- Accepted files give a scenario and a table within their limits.
-- Assumes nothing.
use mathlib.Core.Path.{◌≡◌, sym, ap₂, ◌∙◌}
use mathlib.Core.List.{List}
use Prim.Native.Nat.{ℕ}
use Rattle.site.specs.declared.Scenario.{Scenario}
use Rattle.site.proofs.FieldsWithin.{accepted_fit, accepted_places, mother_accepted}
use Rattle.exposure.proofs.ExposureWithin.{exposure_within}
use Rattle.book.proofs.RowsWithin.{rows_within}
use Rattle.files.specs.Files.{Files, files_refusal, scenario_in, table_in}
use Rattle.files.specs.FilesRead.{FilesRead}
use Rattle.files.specs.Internal.{FilesAreRead}
use Rattle.files.proofs.FilesPassed.{site_passed, book_passed}
use Rattle.child.specs.Decoded.{Decoded}
use Rattle.engine.specs.Internal.{AreThoseOf}

pub files_decoded : (f : Files) → files_refusal f ≡ 0 → Decoded (scenario_in f) (table_in f)
files_decoded f passed =
    record {
      exposure = exposure_within (scenario_in f) (accepted_fit f.site (site_passed f passed)) (accepted_places f.site (site_passed f passed));
      mother = mother_accepted f.site (site_passed f passed);
      row = rows_within f.book (book_passed f passed);
    }

-- a scenario and a table that are those of accepted files
module _ {f : Files} {scenario : Scenario} {table : List ℕ} (those : AreThoseOf f scenario table) where
  pub read_as_lem : {A : Type 0} (g : Scenario → List ℕ → A) → g scenario table ≡ g (scenario_in f) (table_in f)
  read_as_lem g = ap₂ g those.scenario_is those.table_is

  pub read_decoded : Decoded scenario table
  read_decoded = rw (those.scenario_is, those.table_is) (files_decoded f those.accepted)

-- as reading the files leaves them
pub files_are_those : {f : Files} {table : List ℕ} {x : FilesRead} → FilesAreRead f table x → x.refusal ≡ 0 → AreThoseOf f x.scenario table
files_are_those read passed = record { accepted = sym read.refusal ∙ passed; scenario_is = read.scenario passed; table_is = read.table_is passed }
