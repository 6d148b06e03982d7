-- What contracts see of a snapshot, and what it keeps.
use Rattle.std.specs.Prelude.{◌≡◌, refl}
use Rattle.std.specs.Coded.{Coded, code_by, coded×}
use Rattle.batch_store.specs.Setups.{Setting, coded_setting}
use Rattle.batch_store.specs.Books.{Listing, coded_listing, accepted_in}
use Rattle.snap_file.specs.Origins.{coded_origin}
use Rattle.snap_file.specs.Spelling.{IsKept}
use Rattle.snap_file.specs.declared.origin.Origin.{Origin}

pub record Saved : Type 0 where
  pub origin : Origin
  pub setup : Setting
  pub list : Listing

abbrev pub saved : Origin → Setting → Listing → Saved
saved o s l = record { origin = o; setup = s; list = l }

abbrev pub coded_saved : Coded Saved
coded_saved = code_by (Origin × (Setting × Listing)) (coded× coded_origin (coded× coded_setting coded_listing))
    (λ v. (v.origin, (v.setup, v.list))) (λ p. saved p.0 p.1.0 p.1.1) (λ _. refl)

-- the base has the setup's dimensions, so the list tells what was accepted, under the setup
pub record HasBase (s : Setting) (l : Listing) : Type 0 where
  pub rows : l.base.rows ≡ s.rows
  pub cols : l.base.cols ≡ s.cols

-- a setup and a list as a book hands it out, that have a file
pub record IsSaved (s : Setting) (l : Listing) : Type 0 where
  pub kept : IsKept s (accepted_in l)
  pub based : HasBase s l
