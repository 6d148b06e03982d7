-- What a server ends with, by the word of its disk.
--     EndsWith saves d path v a
--                     an engine of setup v was closed with this as accepted, which a book accepts; and where there is a
--                     path the disk d has answered that it was saved under it
--     GoesOn a b      what an engine had accepted when it was closed, b, goes on from what it was opened with, a: the
--                     entries of a are the first of b's, and what is folded in a is folded in b, and behind it batches that
--                     were folded since
--     IsWhole failed full b es
--                     these are all entries of b, or a log has answered that it has failed, or that it is full
--     IsStored synced failed full has_log path a b s
--                     s tells what is stored at the end of an engine that was opened with a and closed with b, and how
--                     many batches aren't. Without a log, or with a snapshot's path, that is all of b. With a log alone
--                     it is what a sync of the log has made durable. In each case a log has made durable at least a, and
--                     of b a beginning: with a snapshot's path all of it, unless the log has failed or is full
--     HasEnded saves d synced failed full path v has_log a s
--                     a server of setup v that started with a was closed with something that goes on from it; that was
--                     saved where there is a path, and s tells what is stored of it
--     IsShort ends f  that so many batches aren't durable is told only where a server has ended so
--     IsClosed seats a
--                     what the seats of an engine say of what it had accepted when it was closed
--     StaysAccepted synced a e k
--                     a sync has covered this entry at the reply's index, and at that index alone it is among the
--                     entries of what was accepted
use Rattle.std.specs.Prelude.{◌≡◌, ◌⊎◌, ℕ, ◌+◌, ◌≤◌, List, length, slice_get, Bool, true, false, Option, Some, None}
use Rattle.std.specs.Prelude.{String}
use mathlib.Core.List.{IsPrefix}
use Rattle.batch_store.specs.declared.verdict.Entry.{Entry}
use Rattle.batch_store.specs.declared.verdict.Kept.{Kept}
use Rattle.batch_store.specs.Setups.{Setting}
use Rattle.batch_store.specs.Accepted.{Accepted, entries_in, count_in, total_in}
use Rattle.batch_store.specs.Books.{AreAccepted}
use Rattle.plain_engine.specs.declared.status.Status.{Status}
use Rattle.plain_engine.specs.Object.{status_of}
use Rattle.locked_engine.specs.Counted.{CountsOnce}
use Rattle.locked_engine.specs.Opened.{firsts, SharePast}
use Rattle.locked_engine.specs.Told.{AreShown}
use Rattle.locked_engine.specs.Versions.{version_status}
use Rattle.locked_engine.specs.Views.{SeatView}
use Rattle.session_pool.specs.Saves.{IsSaved}
use Rattle.socket_server.specs.declared.fault.ServerFault.{ServerFault}
use Rattle.socket_server.specs.declared.fault.ServerFault.TheVariants.{NotDurable}
use Rattle.socket_server.specs.declared.stopped.Stopped.{Stopped}

abbrev pub EndsWith : {D Z : Type 0} → (D → List ℕ → Setting → Accepted → Type 0) → D → Option (String Z) →
    Setting → Accepted → Type 0
EndsWith saves d path v a = AreAccepted v a × IsSaved saves d path v a

pub record GoesOn (a b : Accepted) : Type 0 where
  pub entries : IsPrefix (entries_in a) (entries_in b)
  pub past : SharePast b a

-- The seats' shares add up to the accepted total, and what each was shown begins the accepted entries.
pub record IsClosed (seats : List SeatView) (a : Accepted) : Type 0 where
  pub shares : firsts seats ≡ total_in a
  pub shown : AreShown seats (entries_in a)

pub record StaysAccepted (synced : List Entry → Type 0) (a : Accepted) (e : Entry) (k : Kept) : Type 0 where
  pub covered : (es : List Entry) × synced es × (slice_get es k.index ≡ Some e)
  pub counted : CountsOnce (entries_in a) e k

abbrev pub stopped : Status → ℕ → Stopped
stopped status missing = record { status = status; missing = missing }

-- a log has made this durable, which goes on from a and begins b
abbrev pub IsSynced : (List Entry → Type 0) → Accepted → Accepted → List Entry → Type 0
IsSynced synced a b es = synced es × IsPrefix (entries_in a) es × IsPrefix es (entries_in b)

abbrev pub IsWhole : Type 0 → Type 0 → Accepted → List Entry → Type 0
IsWhole failed full b es = (es ≡ entries_in b) ⊎ (failed ⊎ full)

abbrev pub IsStored : {Z : Type 0} → (List Entry → Type 0) → Type 0 → Type 0 → Bool → Option (String Z) → Accepted →
    Accepted → Stopped → Type 0
IsStored synced failed full false path a b s = s ≡ stopped (status_of b) 0
IsStored synced failed full true (Some path) a b s =
    (s ≡ stopped (status_of b) 0) × (es : List Entry) × IsSynced synced a b es × IsWhole failed full b es
IsStored synced failed full true None a b s =
    (es : List Entry) × IsSynced synced a b es × (s.status ≡ version_status es) ×
    (length es + s.missing ≡ count_in b)

abbrev pub HasEnded : {D Z : Type 0} → (D → List ℕ → Setting → Accepted → Type 0) → D → (List Entry → Type 0) →
    Type 0 → Type 0 → Option (String Z) → Setting → Bool → Accepted → Stopped → Type 0
HasEnded saves d synced failed full path v has_log a s =
    (b : Accepted) × GoesOn a b × EndsWith saves d path v b × IsStored synced failed full has_log path a b s

abbrev pub IsShort : (Stopped → Type 0) → ServerFault → Type 0
IsShort ends (NotDurable batches) = (status : Status) × (1 ≤ batches) × ends (stopped status batches)
IsShort ends _ = Unit {0}
