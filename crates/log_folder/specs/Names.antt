-- What stands under the name of a log, and what one call does to it.
--     LogCall             the calls of a log's folder, but for the removal of the new file
--     KeepsName .. s t    the file under the name is the same, and no other is left by a loss of power than before
--     IsFreshFile .. f    an empty file, of which a loss of power leaves no bytes
--     IsDurable .. f      whatever a loss of power leaves of the file, it is what is written
--     HasHead .. f head   the file has just these bytes, and a loss of power leaves it so
--     HasTakenName .. s t number
--                         from s to t, the file of this number took the name, and then the folder was synced
--     HasFailedToName .. s t number
--                         one of the two calls failed, and none followed
--     failed_calls fault  how many calls of the folder failed where a log wasn't begun: a write and a sync are calls of
--                         its file
--     HasFailedFile .. fault
--                         where it is one of these, a file has failed it
use Rattle.std.specs.Prelude.{◌≡◌, ◌⊎◌, ℕ, ◌≤◌, Bool, true, List, [], length, Option, Some, Result, Ok, Err, ⊤}
use Rattle.byte_io.specs.declared.fault.DeviceFault.{DeviceFault}
use Rattle.log_blocks.specs.Files.{IsSame}
use Rattle.log_folder.specs.declared.fault.RotateFault.{RotateFault}
use Rattle.file_folder.specs.Calls.{Done}

pub data LogCall : Type 0 where
  find : LogCall
  make_new : LogCall
  take_name : ℕ → LogCall
  sync_names : LogCall

abbrev pub done_of : {X : Type 0} → Result X DeviceFault → Done
done_of (Ok x) = Ok tt
done_of (Err fault) = Err fault

pub record KeepsName {S : Type 0} (named : S → Option ℕ) (may_name : S → Option ℕ → Type 0) (s t : S) : Type 0 where
  pub same : named t ≡ named s
  pub crash : (x : Option ℕ) → may_name t x → may_name s x

pub record IsFreshFile {D : Type 0} (written : D → List ℕ) (may_leave : D → List ℕ → Type 0) (disk : D) : Type 0 where
  pub none : IsSame (written disk) []
  pub durable : (left : List ℕ) → may_leave disk left → IsSame left []

abbrev pub IsDurable : {D : Type 0} → (D → List ℕ) → (D → List ℕ → Type 0) → D → Type 0
IsDurable written may_leave disk = (left : List ℕ) → may_leave disk left → IsSame left (written disk)

-- the file has these bytes, and 00 behind them
pub record HasBytes (bytes file : List ℕ) : Type 0 where
  pub long : length bytes ≤ length file
  pub same : IsSame file bytes

pub record HasHead {D : Type 0} (tells : D → Type 0) (written : D → List ℕ) (may_leave : D → List ℕ → Type 0)
    (disk : D) (head : List ℕ) : Type 0 where
  pub told : tells disk
  pub file : HasBytes head (written disk)
  pub durable : (left : List ℕ) → may_leave disk left → HasBytes head left

-- what a loss of power leaves under the name is what it might have left before, or the file of this number
abbrev pub MayName : {S : Type 0} → (S → Option ℕ → Type 0) → S → S → ℕ → Type 0
MayName may_name s t number = (x : Option ℕ) → may_name t x → may_name s x ⊎ (x ≡ Some number)

pub record HasTakenName {S : Type 0} (calls : S → LogCall → Done → S → Type 0) (tells : S → Type 0)
    (named : S → Option ℕ) (may_name : S → Option ℕ → Type 0) (s t : S) (number : ℕ) : Type 0 where
  pub renamed : S
  pub is_renamed : calls s (take_name number) (Ok tt) renamed
  pub between : tells s → MayName may_name s renamed number
  pub is_synced : calls renamed sync_names (Ok tt) t
  pub stands : tells s → named t ≡ Some number
  pub durable : tells s → (x : Option ℕ) → may_name t x → x ≡ Some number

pub record HasFailedToName {S : Type 0} (calls : S → LogCall → Done → S → Type 0) (tells : S → Type 0)
    (named : S → Option ℕ) (may_name : S → Option ℕ → Type 0) (s t : S) (number : ℕ) : Type 0 where
  pub fault : DeviceFault
  pub why : calls s (take_name number) (Err fault) t
      ⊎ ((renamed : S) × calls s (take_name number) (Ok tt) renamed × calls renamed sync_names (Err fault) t)
  pub stands : tells s → (named t ≡ named s) ⊎ (named t ≡ Some number)
  pub crash : tells s → MayName may_name s t number

abbrev pub failed_calls : RotateFault → ℕ
failed_calls RotateFault.Create = 1
failed_calls RotateFault.Write = 0
failed_calls RotateFault.Sync = 0
failed_calls RotateFault.Rename = 1

abbrev pub HasFailedFile : {D : Type 0} → (D → Bool) → RotateFault → Type 0
HasFailedFile in_doubt RotateFault.Create = ⊤
HasFailedFile {D} in_doubt RotateFault.Write = (disk : D) × (in_doubt disk ≡ true)
HasFailedFile {D} in_doubt RotateFault.Sync = (disk : D) × (in_doubt disk ≡ true)
HasFailedFile in_doubt RotateFault.Rename = ⊤
