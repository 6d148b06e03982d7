-- A coarser file that is held in memory.
--     IsRolling r     its list is one that a book of its setup accepts, all folded, and of its dimensions
--     roll_of r       the book of the windows so far, and what the list tells
--     IsOf x r        it is what x begins as
--     Reads x read    what was read and rolled goes on from x
--     added_in read   how many windows were new
--     IsKeptFrom saves s t read
--                     it was saved where one was new, else no call was made
--     TellsKeep saves s t read fault
--                     it was to be saved, since one was new, and this is told of the answer
use Rattle.std.specs.Prelude.{◌≡◌, ◌⊎◌, ◌<◌, ◌≤◌, ◌-◌, ℕ, [], Result, Ok, Err}
use Rattle.batch_store.specs.Accepted.{Accepted, count_in}
use Rattle.batch_store.specs.Books.{AreAccepted, accepted_in}
use Rattle.batch_store.specs.Setups.{Setting}
use Rattle.snap_file.specs.Snapshots.{HasBase, Saved}
use Rattle.snap_file.specs.declared.fault.SaveFault.{SaveFault}
use Rattle.snap_file.specs.declared.origin.Origin.{Origin}
use Rattle.snap_report.specs.Kept.{IsSaveFault}
use Rattle.snap_roll.specs.Rolls.{Roll, begun_roll, roll}
use Rattle.snap_roll.specs.declared.roll.Read.{Read}
use Rattle.snap_roll.specs.declared.roll_fault.RollFault.{RollFault}
use Rattle.snap_roll.specs.declared.roll_fault.RollFault.TheVariants as fault
use Rattle.snap_roll.specs.declared.rolling.Rolling.{Rolling}

pub record IsRolling (r : Rolling) : Type 0 where
  pub accepted : AreAccepted r.setup (accepted_in r.list)
  pub based : HasBase r.setup r.list
  pub folded : r.list.list ≡ []

abbrev pub roll_of : Rolling → Roll
roll_of r = roll r.book (accepted_in r.list)

pub record IsOf (x : Saved) (o : Origin) (r : Rolling) : Type 0 where
  pub origin : o ≡ x.origin
  pub setup : r.setup ≡ x.setup
  pub state : roll_of r ≡ begun_roll x

pub record Reads (x : Saved) (read : Read) : Type 0 where
  pub origin : read.origin ≡ x.origin
  pub setup : read.rolling.setup ≡ x.setup
  pub had : read.had ≡ count_in (accepted_in x.list)
  pub grows : read.had ≤ count_in (accepted_in read.rolling.list)

abbrev pub added_in : Read → ℕ
added_in read = count_in (accepted_in read.rolling.list) - read.had

abbrev pub IsKeptFrom : {F : Type 0} → (F → Origin → Setting → Accepted → Result (Unit {0}) SaveFault → F → Type 0) →
    F → F → Read → Type 0
IsKeptFrom saves s t read =
    ((added_in read ≡ 0) × (t ≡ s))
    ⊎ ((0 < added_in read) × saves s read.origin read.rolling.setup (accepted_in read.rolling.list) (Ok tt) t)

abbrev pub IsUnkept : {F : Type 0} → (F → Origin → Setting → Accepted → Result (Unit {0}) SaveFault → F → Type 0) →
    F → F → Read → SaveFault → Type 0
IsUnkept saves s t read told = (read.had < count_in (accepted_in read.rolling.list))
    × saves s read.origin read.rolling.setup (accepted_in read.rolling.list) (Err told) t

abbrev pub TellsKeep : {F : Type 0} → (F → Origin → Setting → Accepted → Result (Unit {0}) SaveFault → F → Type 0) →
    F → F → Read → RollFault → Type 0
TellsKeep saves s t read (fault.Save told) = IsSaveFault told × IsUnkept saves s t read told
TellsKeep saves s t read fault.Memory = IsUnkept saves s t read SaveFault.Memory
TellsKeep saves s t read _ = ⊥
