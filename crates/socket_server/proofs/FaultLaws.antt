-- The faults of a server that has its engine say nothing of a load; and why a path isn't locked.
use Rattle.std.proofs.Common.{◌≡◌, ◌≢◌, ◌⊎◌, inl, inr, sym, subst, refl}
use Rattle.std.specs.Prelude.{ℕ, Bool, true, false, List, Option, Some, None, Result, Ok, Err, IfErr, String}
use Rattle.batch_store.specs.Setups.{Setting}
use Rattle.snap_file.specs.Snapshots.{Saved}
use Rattle.snap_file.specs.declared.fault.SnapFault.{SnapFault}
use Rattle.snap_file.specs.declared.fault.FileFault.{FileFault}
use Rattle.snap_file.specs.declared.fault.FileFault.TheVariants as file
use Rattle.socket_server.specs.Faults.{IsLoadFault, IsMet, IsMetServing, MayEnd, IsLockFault, TellsNoLog, TellsNoFile}
use Rattle.batch_store.specs.Books.{Listing}
use Rattle.log_start.specs.declared.fault.StartFault.{StartFault}
use Rattle.log_start.specs.declared.owner.LogOwner.{LogOwner}
use Rattle.snap_file.specs.declared.fault.SnapFault.TheVariants as snap
use Rattle.socket_server.specs.Starts.{IsLoadTold, IsLockTold, IsLogTold, StartAnswer, needs_file}
use Rattle.socket_server.specs.Ends.{IsShort, stopped}
use Rattle.socket_server.specs.declared.fault.ServerFault.{ServerFault}
use Rattle.socket_server.specs.declared.stopped.Stopped.{Stopped}
use Rattle.socket_server.specs.declared.fault.ServerFault.TheVariants.{Memory, BadWorkers, NoAddress, SamePath}
use Rattle.socket_server.specs.declared.fault.ServerFault.TheVariants.{BadCompactors}
use Rattle.socket_server.specs.declared.fault.ServerFault.TheVariants.{SnapshotDiffers, File, Log, Listen, NoWorker}
use Rattle.socket_server.specs.declared.fault.ServerFault.TheVariants.{RecordsDiffer, Save, LastLog, Output}
use Rattle.socket_server.specs.declared.fault.ServerFault.TheVariants.{BadSnapshotPath, BadLogPath, NotDurable}
use Rattle.socket_server.specs.declared.fault.ServerFault.TheVariants.{NeedsLog, NoLog, NoRandom}
use Rattle.socket_server.specs.declared.fault.ServerFault.TheVariants.{LogDiffers, NeedsNumber}
use Rattle.batch_store.specs.declared.given_numbers.GivenNumbers.{GivenNumbers}
use Rattle.socket_server.specs.declared.log_host.LogOrigin.{LogOrigin}

pub serving_met : (must_load : Bool) (f : ServerFault) → IsMetServing f → IsMet must_load f
serving_met must_load Memory m = m
serving_met must_load BadWorkers m = m
serving_met must_load NoAddress m = m
serving_met must_load SamePath m = absurd m
serving_met must_load BadCompactors m = absurd m
serving_met must_load BadSnapshotPath m = absurd m
serving_met must_load BadLogPath m = absurd m
serving_met must_load (SnapshotDiffers misfit) m = absurd m
serving_met must_load (LogDiffers misfit) m = absurd m
serving_met must_load (NeedsNumber number) m = absurd m
serving_met must_load (NeedsLog snapshot) m = absurd m
serving_met must_load (NoLog log snapshot) m = absurd m
serving_met must_load NoRandom m = absurd m
serving_met must_load (File fault) m = absurd m
serving_met must_load (Log fault) m = absurd m
serving_met must_load (Listen address) m = m
serving_met must_load NoWorker m = m
serving_met must_load RecordsDiffer m = m
serving_met must_load (Save fault) m = m
serving_met must_load (LastLog fault) m = m
serving_met must_load (Output fault) m = m
serving_met must_load (NotDurable batches) m = absurd m

pub serving_told : {H Z : Type 0} (loads : H → List ℕ → ℕ → Result Saved FileFault → Type 0)
    (locks : H → List ℕ → Result Bool FileFault → Type 0) (h : H) (path : Option (String Z)) (v : GivenNumbers)
    (f : ServerFault) → IsMetServing f → IsLoadTold loads locks h path v f
serving_told loads locks h path v Memory m = tt
serving_told loads locks h path v BadWorkers m = tt
serving_told loads locks h path v NoAddress m = tt
serving_told loads locks h path v SamePath m = absurd m
serving_told loads locks h path v BadCompactors m = absurd m
serving_told loads locks h path v BadSnapshotPath m = absurd m
serving_told loads locks h path v BadLogPath m = absurd m
serving_told loads locks h path v (SnapshotDiffers misfit) m = absurd m
serving_told loads locks h path v (LogDiffers misfit) m = absurd m
serving_told loads locks h path v (NeedsNumber number) m = absurd m
serving_told loads locks h path v (NeedsLog snapshot) m = absurd m
serving_told loads locks h path v (NoLog log snapshot) m = absurd m
serving_told loads locks h path v NoRandom m = absurd m
serving_told loads locks h path v (File fault) m = absurd m
serving_told loads locks h path v (Log fault) m = absurd m
serving_told loads locks h path v (Listen address) m = tt
serving_told loads locks h path v NoWorker m = tt
serving_told loads locks h path v RecordsDiffer m = tt
serving_told loads locks h path v (Save fault) m = tt
serving_told loads locks h path v (LastLog fault) m = tt
serving_told loads locks h path v (Output fault) m = tt
serving_told loads locks h path v (NotDurable batches) m = absurd m

-- ---- what is met where the snapshot needn't be there is met where it must

file_met : (must_load : Bool) (f : FileFault) → IsLoadFault false f → IsLoadFault must_load f
file_met must_load file.NotFound m = absurd cc
file_met must_load file.OpenFailed m = tt
file_met must_load file.Busy m = tt
file_met must_load (file.Snap snap.Memory) m = m
file_met must_load (file.Snap fault) m = tt
file_met must_load file.Memory m = m

any_met : (must_load : Bool) (f : ServerFault) → IsMet false f → IsMet must_load f
any_met must_load Memory m = m
any_met must_load BadWorkers m = m
any_met must_load NoAddress m = m
any_met must_load BadSnapshotPath m = m
any_met must_load BadLogPath m = m
any_met must_load SamePath m = m
any_met must_load BadCompactors m = m
any_met must_load (SnapshotDiffers misfit) m = m
any_met must_load (LogDiffers misfit) m = m
any_met must_load (NeedsNumber number) m = m
any_met must_load (NeedsLog snapshot) m = m
any_met must_load (NoLog log snapshot) m = m
any_met must_load NoRandom m = m
any_met must_load (File fault) m = file_met must_load fault m
any_met must_load (Log fault) m = m
any_met must_load (Listen address) m = m
any_met must_load NoWorker m = m
any_met must_load RecordsDiffer m = m
any_met must_load (Save fault) m = m
any_met must_load (LastLog fault) m = m
any_met must_load (Output fault) m = m
any_met must_load (NotDurable batches) m = m

pub needs_met : {Z : Type 0} (must_load : Bool) (log : Option (String Z)) (f : ServerFault) →
    IsMet (needs_file must_load log) f → IsMet must_load f
needs_met must_load None f m = m
needs_met must_load (Some log) f m = any_met must_load f m

-- what a server may meet to its end is what it may meet before, or that batches aren't durable
ending : (P Q : ServerFault → Type 0) (f : ServerFault) → ((batches : ℕ) → Q (NotDurable batches)) →
    (P f → Q f) → MayEnd P f → Q f
ending P Q Memory n s m = s m
ending P Q BadWorkers n s m = s m
ending P Q NoAddress n s m = s m
ending P Q BadSnapshotPath n s m = s m
ending P Q BadLogPath n s m = s m
ending P Q SamePath n s m = s m
ending P Q BadCompactors n s m = s m
ending P Q (SnapshotDiffers misfit) n s m = s m
ending P Q (LogDiffers misfit) n s m = s m
ending P Q (NeedsNumber number) n s m = s m
ending P Q (NeedsLog snapshot) n s m = s m
ending P Q (NoLog log snapshot) n s m = s m
ending P Q NoRandom n s m = s m
ending P Q (File fault) n s m = s m
ending P Q (Log fault) n s m = s m
ending P Q (Listen address) n s m = s m
ending P Q NoWorker n s m = s m
ending P Q RecordsDiffer n s m = s m
ending P Q (Save fault) n s m = s m
ending P Q (LastLog fault) n s m = s m
ending P Q (Output fault) n s m = s m
ending P Q (NotDurable batches) n s m = n batches

pub met_ending : (must_load : Bool) (f : ServerFault) → IsMet must_load f → MayEnd (IsMet must_load) f
met_ending must_load Memory m = m
met_ending must_load BadWorkers m = m
met_ending must_load NoAddress m = m
met_ending must_load BadSnapshotPath m = m
met_ending must_load BadLogPath m = m
met_ending must_load SamePath m = m
met_ending must_load BadCompactors m = m
met_ending must_load (SnapshotDiffers misfit) m = m
met_ending must_load (LogDiffers misfit) m = m
met_ending must_load (NeedsNumber number) m = m
met_ending must_load (NeedsLog snapshot) m = m
met_ending must_load (NoLog log snapshot) m = m
met_ending must_load NoRandom m = m
met_ending must_load (File fault) m = m
met_ending must_load (Log fault) m = m
met_ending must_load (Listen address) m = m
met_ending must_load NoWorker m = m
met_ending must_load RecordsDiffer m = m
met_ending must_load (Save fault) m = m
met_ending must_load (LastLog fault) m = m
met_ending must_load (Output fault) m = m
met_ending must_load (NotDurable batches) m = absurd m

pub serving_ending : (must_load : Bool) (f : ServerFault) → IsMetServing f → MayEnd (IsMet must_load) f
serving_ending must_load f m = met_ending must_load f (serving_met must_load f m)

pub ending_met : (must_load : Bool) (f : ServerFault) → MayEnd IsMetServing f → MayEnd (IsMet must_load) f
ending_met must_load f m =
    ending IsMetServing (MayEnd (IsMet must_load)) f (λ n. tt) (serving_ending must_load f) m

-- a fault of the settings is never met by a server whose settings were taken
pub never_met : {T : Type 0} (must_load : Bool) (r : Result T ServerFault) (f : ServerFault) (X : Type 0) →
    (MayEnd (IsMet must_load) f → ⊥) → IfErr r (MayEnd (IsMet must_load)) → (X → ⊥) →
    (r ≡ Err f → X) × (X → r ≡ Err f)
never_met {T} must_load r f X never met x = (
  λ is. absurd (never (subst (λ (y : Result T ServerFault). IfErr y (MayEnd (IsMet must_load))) is met)),
  λ h. absurd (x h),
)

pub ending_told : {H Z : Type 0} (loads : H → List ℕ → ℕ → Result Saved FileFault → Type 0)
    (locks : H → List ℕ → Result Bool FileFault → Type 0) (h : H) (path : Option (String Z)) (v : GivenNumbers)
    (f : ServerFault) → MayEnd IsMetServing f → IsLoadTold loads locks h path v f
ending_told loads locks h path v f m =
    ending IsMetServing (IsLoadTold loads locks h path v) f (λ n. tt) (serving_told loads locks h path v f) m

-- what tells nothing of the log tells no more of its lock
pub no_log_told : {H Z : Type 0} (locks : H → List ℕ → Result Bool FileFault → Type 0) (h : H)
    (path : Option (String Z)) (f : ServerFault) → TellsNoLog f → IsLockTold locks h path f
no_log_told locks h path Memory n = tt
no_log_told locks h path BadWorkers n = tt
no_log_told locks h path NoAddress n = tt
no_log_told locks h path SamePath n = tt
no_log_told locks h path BadCompactors n = tt
no_log_told locks h path BadSnapshotPath n = tt
no_log_told locks h path BadLogPath n = tt
no_log_told locks h path (SnapshotDiffers misfit) n = tt
no_log_told locks h path (LogDiffers misfit) n = absurd n
no_log_told locks h path (NeedsNumber number) n = absurd n
no_log_told locks h path (NeedsLog snapshot) n = tt
no_log_told locks h path (NoLog log snapshot) n = absurd n
no_log_told locks h path NoRandom n = tt
no_log_told locks h path (File fault) n = tt
no_log_told locks h path (Log fault) n = absurd n
no_log_told locks h path (Listen address) n = tt
no_log_told locks h path NoWorker n = tt
no_log_told locks h path RecordsDiffer n = tt
no_log_told locks h path (Save fault) n = tt
no_log_told locks h path (LastLog fault) n = tt
no_log_told locks h path (Output fault) n = tt
no_log_told locks h path (NotDurable batches) n = tt

-- what tells nothing of the snapshot's file was met by no load
pub no_file_told : {H Z : Type 0} (loads : H → List ℕ → ℕ → Result Saved FileFault → Type 0)
    (locks : H → List ℕ → Result Bool FileFault → Type 0) (h : H) (path : Option (String Z)) (v : GivenNumbers)
    (f : ServerFault) → TellsNoFile f → IsLoadTold loads locks h path v f
no_file_told loads locks h path v Memory n = tt
no_file_told loads locks h path v BadWorkers n = tt
no_file_told loads locks h path v NoAddress n = tt
no_file_told loads locks h path v SamePath n = tt
no_file_told loads locks h path v BadCompactors n = tt
no_file_told loads locks h path v BadSnapshotPath n = tt
no_file_told loads locks h path v BadLogPath n = tt
no_file_told loads locks h path v (SnapshotDiffers misfit) n = absurd n
no_file_told loads locks h path v (LogDiffers misfit) n = tt
no_file_told loads locks h path v (NeedsNumber number) n = absurd n
no_file_told loads locks h path v (NeedsLog snapshot) n = absurd n
no_file_told loads locks h path v (NoLog log snapshot) n = tt
no_file_told loads locks h path v NoRandom n = tt
no_file_told loads locks h path v (File fault) n = absurd n
no_file_told loads locks h path v (Log fault) n = tt
no_file_told loads locks h path v (Listen address) n = tt
no_file_told loads locks h path v NoWorker n = tt
no_file_told loads locks h path v RecordsDiffer n = tt
no_file_told loads locks h path v (Save fault) n = tt
no_file_told loads locks h path v (LastLog fault) n = tt
no_file_told loads locks h path v (Output fault) n = tt
no_file_told loads locks h path v (NotDurable batches) n = tt

pub serving_no_log : (f : ServerFault) → IsMetServing f → TellsNoLog f
serving_no_log Memory m = tt
serving_no_log BadWorkers m = tt
serving_no_log NoAddress m = tt
serving_no_log SamePath m = tt
serving_no_log BadCompactors m = tt
serving_no_log BadSnapshotPath m = tt
serving_no_log BadLogPath m = tt
serving_no_log (SnapshotDiffers misfit) m = tt
serving_no_log (LogDiffers misfit) m = absurd m
serving_no_log (NeedsNumber number) m = absurd m
serving_no_log (NeedsLog snapshot) m = absurd m
serving_no_log (NoLog log snapshot) m = absurd m
serving_no_log NoRandom m = absurd m
serving_no_log (File fault) m = tt
serving_no_log (Log fault) m = absurd m
serving_no_log (Listen address) m = tt
serving_no_log NoWorker m = tt
serving_no_log RecordsDiffer m = tt
serving_no_log (Save fault) m = tt
serving_no_log (LastLog fault) m = tt
serving_no_log (Output fault) m = tt
serving_no_log (NotDurable batches) m = absurd m

-- a fault of the log's lock is told as one of the log
pub lock_log_told : {H Y Z : Type 0} (loads : H → List ℕ → ℕ → Result Saved FileFault → Type 0)
    (locks : H → List ℕ → Result Bool FileFault → Type 0)
    (heads : H → List ℕ → Result (Option Setting) StartFault → Type 0)
    (starts : H → List ℕ → Setting → LogOwner → Listing → StartAnswer → Type 0) (h : H)
    (path : Option (String Y))
    (log : Option (String Z)) (must_load : Bool) (v : GivenNumbers) (f : ServerFault) → IsLockTold locks h log f →
    IsLogTold loads locks heads starts h path log must_load v f
lock_log_told loads locks heads starts h path log must_load v f told = inl told

pub serving_log_told : {H Y Z : Type 0} (loads : H → List ℕ → ℕ → Result Saved FileFault → Type 0)
    (locks : H → List ℕ → Result Bool FileFault → Type 0)
    (heads : H → List ℕ → Result (Option Setting) StartFault → Type 0)
    (starts : H → List ℕ → Setting → LogOwner → Listing → StartAnswer → Type 0) (h : H)
    (path : Option (String Y))
    (log : Option (String Z)) (must_load : Bool) (v : GivenNumbers) (f : ServerFault) → IsMetServing f →
    IsLogTold loads locks heads starts h path log must_load v f
serving_log_told loads locks heads starts h path log must_load v f met =
    inl (no_log_told locks h log f (serving_no_log f met))

pub ending_log_told : {H Y Z : Type 0} (loads : H → List ℕ → ℕ → Result Saved FileFault → Type 0)
    (locks : H → List ℕ → Result Bool FileFault → Type 0)
    (heads : H → List ℕ → Result (Option Setting) StartFault → Type 0)
    (starts : H → List ℕ → Setting → LogOwner → Listing → StartAnswer → Type 0) (h : H)
    (path : Option (String Y))
    (log : Option (String Z)) (must_load : Bool) (v : GivenNumbers) (f : ServerFault) → MayEnd IsMetServing f →
    IsLogTold loads locks heads starts h path log must_load v f
ending_log_told loads locks heads starts h path log must_load v f m =
    ending IsMetServing (IsLogTold loads locks heads starts h path log must_load v) f (λ n. inl tt)
    (serving_log_told loads locks heads starts h path log must_load v f) m

-- that batches aren't durable is told by a server that ends alone
pub met_short : (must_load : Bool) (ends : Stopped → Type 0) (f : ServerFault) → IsMet must_load f → IsShort ends f
met_short must_load ends Memory m = tt
met_short must_load ends BadWorkers m = tt
met_short must_load ends NoAddress m = tt
met_short must_load ends BadSnapshotPath m = tt
met_short must_load ends BadLogPath m = tt
met_short must_load ends SamePath m = tt
met_short must_load ends BadCompactors m = tt
met_short must_load ends (SnapshotDiffers misfit) m = tt
met_short must_load ends (LogDiffers misfit) m = tt
met_short must_load ends (NeedsNumber number) m = tt
met_short must_load ends (NeedsLog snapshot) m = tt
met_short must_load ends (NoLog log snapshot) m = tt
met_short must_load ends NoRandom m = tt
met_short must_load ends (File fault) m = tt
met_short must_load ends (Log fault) m = tt
met_short must_load ends (Listen address) m = tt
met_short must_load ends NoWorker m = tt
met_short must_load ends RecordsDiffer m = tt
met_short must_load ends (Save fault) m = tt
met_short must_load ends (LastLog fault) m = tt
met_short must_load ends (Output fault) m = tt
met_short must_load ends (NotDurable batches) m = absurd m

pub serving_short : (ends : Stopped → Type 0) (f : ServerFault) → IsMetServing f → IsShort ends f
serving_short ends f m = met_short true ends f (serving_met true f m)

one_short : (P Q : Stopped → Type 0) (f : ServerFault) → ((s : Stopped) → P s → Q s) → IsShort P f → IsShort Q f
one_short P Q Memory w h = tt
one_short P Q BadWorkers w h = tt
one_short P Q NoAddress w h = tt
one_short P Q BadSnapshotPath w h = tt
one_short P Q BadLogPath w h = tt
one_short P Q SamePath w h = tt
one_short P Q BadCompactors w h = tt
one_short P Q (SnapshotDiffers misfit) w h = tt
one_short P Q (LogDiffers misfit) w h = tt
one_short P Q (NeedsNumber number) w h = tt
one_short P Q (NeedsLog snapshot) w h = tt
one_short P Q (NoLog log snapshot) w h = tt
one_short P Q NoRandom w h = tt
one_short P Q (File fault) w h = tt
one_short P Q (Log fault) w h = tt
one_short P Q (Listen address) w h = tt
one_short P Q NoWorker w h = tt
one_short P Q RecordsDiffer w h = tt
one_short P Q (Save fault) w h = tt
one_short P Q (LastLog fault) w h = tt
one_short P Q (Output fault) w h = tt
one_short P Q (NotDurable batches) w h = (h.0, h.1, w (stopped h.0 batches) h.2)

-- an end that says more is such an end
pub short_weaker : {T : Type 0} (r : Result T ServerFault) (P Q : Stopped → Type 0) → ((s : Stopped) → P s → Q s) →
    IfErr r (IsShort P) → IfErr r (IsShort Q)
short_weaker (Ok x) P Q w h = tt
short_weaker (Err f) P Q w h = one_short P Q f w h

pub lock_met : {T : Type 0} (r : Result T FileFault) → IfErr r (λ f. (f ≡ file.Busy) ⊎ (f ≡ file.Memory)) →
    IfErr r (IsLockFault false)
lock_met (Ok x) h = tt
lock_met (Err f) (inl is) = subst (λ (g : FileFault). IsLockFault false g) (sym is) tt
lock_met (Err f) (inr is) = subst (λ (g : FileFault). IsLockFault false g) (sym is) tt

-- where nothing was read
one_met : (f : FileFault) → ((fault : SnapFault) → f ≢ file.Snap fault) → IsLockFault true f
one_met file.NotFound h = refl
one_met file.OpenFailed h = refl
one_met file.Busy h = tt
one_met (file.Snap fault) h = absurd (h fault refl)
one_met file.Memory h = tt

pub existing_met : {T : Type 0} (r : Result T FileFault) →
    IfErr r (λ f. (fault : SnapFault) → f ≢ file.Snap fault) → IfErr r (IsLockFault true)
existing_met (Ok x) h = tt
existing_met (Err f) h = one_met f h
