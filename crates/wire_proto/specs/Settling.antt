-- Puts that were begun, and what they are answered once they are settled.
--     PutsIt          a request puts this batch
--     begun_as        what a session holds back of a put that a keeper answered so; None where memory ran out
--     Begins          a request was begun, and this is held back of it
--     BeginsOut       memory ran out for a request, before the call that it leads to or in it
--     SettlesOne      what is held back of a put is settled, and answered by these bytes
--     SettlesAll      so is what is held back of puts, one after another
--     SendsSettled    the same, and the link was sent these bytes
--     RefusesAtOnce, AnswersSettled, SettlesEarlier
--                     the laws of a keeper: what it begins and settles is what it gives, as if each put were settled
--                     before the next is begun
--     SettlesAtOnce   a store without a log settles nothing later
--     settled_at_once, earlier_at_once
--                     so it meets them
use Rattle.std.specs.Prelude.{◌≡◌, ℕ, List, [], ◌∷◌, ◌++◌, Option, Some, None, Result, Ok, Err}
use Rattle.std.specs.Prelude.{refl}
use Rattle.std.proofs.Common.{sym, subst}
use Rattle.byte_io.specs.Streams.{Answer}
use Rattle.batch_store.specs.Setups.{Setting}
use Rattle.batch_store.specs.Batches.{Submission}
use Rattle.batch_store.specs.declared.verdict.Kept.{Kept}
use Rattle.plain_engine.specs.declared.fault.PutFault.TheVariants.{Memory, NumberReused, OverTotal, BookFull}
use Rattle.plain_engine.specs.declared.fault.PutFault.TheVariants.{RecordsDiffer}
use Rattle.wire_frames.specs.declared.request.Request.{Request}
use Rattle.wire_frames.specs.declared.request.Request.TheVariants as asked_for
use Rattle.wire_proto.specs.Keeping.{Event, put, settled}
use Rattle.wire_proto.specs.Replies.{accepted, refused}
use Rattle.wire_proto.specs.Answering.{PutsBatch, PutsCells, Refuses}
use Rattle.wire_proto.specs.Closing.{Sends, ClosesBehind}
use Rattle.wire_proto.specs.declared.ended.Ended.{Ended}
use Rattle.wire_proto.specs.declared.held.Begun.{Begun}
use Rattle.wire_proto.specs.declared.held.Begun.TheVariants.{Accepted, Refused}
use Rattle.wire_proto.specs.declared.keeper.PutRefusal.{PutRefusal}
use Rattle.wire_proto.specs.declared.keeper.PutRefusal.TheVariants.{Put, LogFull, LogFailed}
use Rattle.wire_proto.specs.declared.keeper.Settled.{Settled}
use Rattle.wire_proto.specs.declared.keeper.Settled.TheVariants as place_is

abbrev pub PutsIt : Setting → Request → Submission → Type 0
PutsIt setup (asked_for.Put client n bytes) batch = PutsBatch setup client n bytes batch
PutsIt setup (asked_for.PutCells client n bytes) batch = PutsCells setup client n bytes batch
PutsIt setup r batch = ⊥

abbrev pub begun_as : Result Kept PutRefusal → Option Begun
begun_as (Ok kept) = Some (Accepted kept)
begun_as (Err (Put Memory)) = None
begun_as (Err (Put NumberReused)) = Some (Refused 30 0)
begun_as (Err (Put (OverTotal total))) = Some (Refused 31 total)
begun_as (Err (Put BookFull)) = Some (Refused 32 0)
begun_as (Err (Put RecordsDiffer)) = Some (Refused 33 0)
begun_as (Err LogFull) = Some (Refused 34 0)
begun_as (Err LogFailed) = Some (Refused 35 0)

pub data Begins {S : Type 0} (begins : S → Submission → Result Kept PutRefusal → S → Type 0) (setup : Setting)
    (r : Request) (begun : Begun) (s t : S) : Type 0 where
  by_keeper : (batch : Submission) (answer : Result Kept PutRefusal) → PutsIt setup r batch → begins s batch answer t →
      begun_as answer ≡ Some begun → Begins begins setup r begun s t
  by_body : (code detail : ℕ) → Refuses setup r (refused code detail) → t ≡ s → begun ≡ Refused code detail →
      Begins begins setup r begun s t

pub data BeginsOut {S : Type 0} (begins : S → Submission → Result Kept PutRefusal → S → Type 0) (setup : Setting)
    (r : Request) (s t : S) : Type 0 where
  before_keeper : t ≡ s → BeginsOut begins setup r s t
  in_keeper : (batch : Submission) (answer : Result Kept PutRefusal) → PutsIt setup r batch → begins s batch answer t →
      begun_as answer ≡ None → BeginsOut begins setup r s t

abbrev pub settled_reply : Kept → Settled → List ℕ
settled_reply kept place_is.Durable = accepted kept
settled_reply kept place_is.LogFailed = refused 35 0
settled_reply kept place_is.RecordsDiffer = refused 33 0

abbrev pub SettlesOne : {S : Type 0} → (S → ℕ → Settled → S → Type 0) → S → Begun → List ℕ → S → Type 0
SettlesOne settles s (Accepted kept) reply t =
    (known : Settled) × settles s kept.index known t × (reply ≡ settled_reply kept known)
SettlesOne settles s (Refused code detail) reply t = (t ≡ s) × (reply ≡ refused code detail)

abbrev pub SettlesAll : {S : Type 0} → (S → ℕ → Settled → S → Type 0) → S → List Begun → List ℕ → S → Type 0
SettlesAll settles s [] bytes t = (t ≡ s) × (bytes ≡ [])
SettlesAll settles s (one ∷ more) bytes t =
    (m : _) × (reply : List ℕ) × (replies : List ℕ) × SettlesOne settles s one reply m × (bytes ≡ reply ++ replies) ×
    SettlesAll settles m more replies t

module _ {L S : Type 0} (settles : S → ℕ → Settled → S → Type 0) (writes : L → List ℕ → Answer → L → Type 0)
    (failures : L → ℕ) where
  abbrev pub SendsSettled : S → S → L → L → List Begun → ℕ → Result ℕ Ended → Type 0
  SendsSettled s t l l' begun written result = (bytes : List ℕ) × SettlesAll settles s begun bytes t ×
      Sends writes failures l l' bytes written result

  -- what was held back is settled and sent, and then comes the last reply of the session
  abbrev pub ClosesSettled : S → S → L → L → List Begun → List ℕ → ℕ → Ended → Ended → Type 0
  ClosesSettled s t l l' begun reply written ended result = (bytes : List ℕ) × SettlesAll settles s begun bytes t ×
      ClosesBehind writes failures l l' bytes reply written ended result

module _ {S : Type 0} (gives : S → Event → S → Type 0) (begins : S → Submission → Result Kept PutRefusal → S → Type 0)
    (settles : S → ℕ → Settled → S → Type 0) where
  abbrev pub RefusesAtOnce : Type 0
  RefusesAtOnce = (s t : S) (batch : Submission) (refusal : PutRefusal) → begins s batch (Err refusal) t →
      gives s (put batch (Err refusal)) t

  abbrev pub AnswersSettled : Type 0
  AnswersSettled = (s m t : S) (batch : Submission) (kept : Kept) (known : Settled) → begins s batch (Ok kept) m →
      settles m kept.index known t → gives s (put batch (settled kept known)) t

  abbrev pub SettlesEarlier : Type 0
  SettlesEarlier = (s m t : S) (batch : Submission) (answer : Result Kept PutRefusal) (place : ℕ) (known : Settled) →
      begins s batch answer m → settles m place known t →
      (x : S) × settles s place known x × begins x batch answer t

-- it is settled as soon as it is accepted
abbrev pub SettlesAtOnce : {S : Type 0} → S → Settled → S → Type 0
SettlesAtOnce s known t = (t ≡ s) × (known ≡ place_is.Durable)

pub settled_at_once : {S : Type 0} (gives : Result Kept PutRefusal → S → Type 0) (m t : S) (kept : Kept)
    (known : Settled) → gives (Ok kept) m → SettlesAtOnce m known t → gives (settled kept known) t
settled_at_once gives m t kept known b h =
    subst (λ (d : Settled). gives (settled kept d) t) (sym h.1) (subst (gives (Ok kept)) (sym h.0) b)

pub earlier_at_once : {S : Type 0} (begins : S → S → Type 0) (s m t : S) (known : Settled) →
    begins s m → SettlesAtOnce m known t → (x : S) × SettlesAtOnce s known x × begins x t
earlier_at_once begins s m t known b h = (s, (refl, h.1), subst (begins s) (sym h.0) b)
