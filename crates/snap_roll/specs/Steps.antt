-- How far a roll has come.
--     GoesOn reads c gs found u v o had r at
--                     of the files of which gs has the numbers, so many were loaded, from u to v, and taken into a coarser
--                     file that was found so, of this origin and with so many batches; it is held as r
use Rattle.std.specs.Prelude.{◌≡◌, ◌≤◌, ℕ, List, Option, Result, take}
use Rattle.batch_store.specs.Accepted.{count_in}
use Rattle.batch_store.specs.Books.{accepted_in}
use Rattle.batch_store.specs.Setups.{Setting}
use Rattle.snap_file.specs.Snapshots.{Saved}
use Rattle.snap_file.specs.declared.origin.Origin.{Origin}
use Rattle.snap_report.specs.declared.fault.CheckFault.{CheckFault}
use Rattle.snap_roll.specs.Held.{roll_of}
use Rattle.snap_roll.specs.Rolls.{Begins, HaveRolled, Window, begun_roll, first_setup}
use Rattle.snap_roll.specs.declared.rolling.Rolling.{Rolling}

pub record GoesOn {S : Type 0} (reads : S → ℕ → Result Saved CheckFault → S → Type 0) (c : ℕ) (gs : List (Option ℕ))
    (found : Option Saved) (u v : S) (o : Origin) (had : ℕ) (r : Rolling) (at : ℕ) : Type 0 where
  pub begun : Saved
  pub windows : List Window
  pub first : Setting
  pub begins : Begins first found begun
  pub first_is : (s : Setting) → first_setup windows s ≡ first
  pub origin_is : o ≡ begun.origin
  pub setup_is : r.setup ≡ begun.setup
  pub had_is : had ≡ count_in (accepted_in begun.list)
  pub grows : had ≤ count_in (accepted_in r.list)
  pub rolled : HaveRolled reads c begun.setup (take at gs) windows u (begun_roll begun) v (roll_of r)
