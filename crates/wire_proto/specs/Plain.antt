-- Sessions over the engine of one thread, whose state is what was accepted, and nothing else.
--     with_batches        what was accepted with these batches behind it
--     plain_told          what the engine tells of itself
--     PlainGives          what the engine answers to a call, and the state that it leaves; it has no log
--     IsFolded a t        t is what was accepted as a has it, of which some first batches more are folded
--     NoneFolds           no message is a Fold
--     AnswersMessages     these bytes answer the messages, one after another: each request as a keeper does, a Stop and
--                         a bad header as the last
--     IsAnswered          the same over the engine of one thread: of the state before and the messages, the bytes and
--                         the state after are a function
--     AreAnswered         so do the messages of one session after another, whatever the bytes
--     FreshPuts           the batches that messages add to what was accepted: each that was fresh, in order, once
--     EndsPlain           how a session over it ends, by cases
use Rattle.std.specs.Prelude.{◌≡◌, ◌⊎◌, ℕ, ◌+◌, ◌<◌, ◌≤◌, List, [], ◌∷◌, ◌++◌, length, take, map, None, Ok, Err}
use Rattle.byte_io.specs.Streams.{Answer}
use Rattle.byte_io.specs.declared.fault.DeviceFault.{DeviceFault}
use Rattle.byte_io.specs.Writing.{HasStopped}
use Rattle.batch_store.specs.Setups.{Setting}
use Rattle.batch_store.specs.Batches.{Submission}
use Rattle.batch_store.specs.Accepted.{Accepted, accepted, with_batch, count_in, summed, folded_into}
use Rattle.batch_store.specs.BookFolds.{folded_to}
use Rattle.plain_engine.specs.Object.{Puts, verdict_in, cell_of, row_sum_of, export_of, status_of}
use Rattle.batch_store.specs.declared.verdict.Verdict.TheVariants.{Fresh}
use Rattle.wire_frames.specs.Frames.{Message, front, Gives, messages}
use Rattle.wire_proto.specs.Keeping.{Event, put, cell, row, status, export, save, stored, stats, fold}
use Rattle.wire_proto.specs.Telling.{Telling, telling}
use Rattle.wire_proto.specs.Replies.{stopping, refused, fault_code}
use Rattle.wire_proto.specs.Answering.{Answers, PutsBatch, PutsCells}
use Rattle.wire_proto.specs.Sessions.{Talks, AllPut}
use Rattle.wire_frames.specs.declared.request.Request.{Request}
use Rattle.wire_frames.specs.declared.request.Request.TheVariants.{Put, PutCells, Stop, Fold}
use Rattle.wire_frames.specs.declared.request.FrameFault.{FrameFault}
use Rattle.wire_proto.specs.declared.keeper.PutRefusal.TheVariants.{Put as Refuses, LogFull, LogFailed}
use Rattle.wire_proto.specs.declared.keeper.SaveRefusal.TheVariants.{SaveOff}
use Rattle.wire_proto.specs.declared.keeper.FoldRefusal.TheVariants as no_fold
use Rattle.wire_proto.specs.declared.ended.Ended.{Ended}
use Rattle.wire_proto.specs.declared.ended.Ended.TheVariants.{Closed, ReadFault, WriteFault, BadFrame, Memory, Stopped}
use Rattle.wire_proto.specs.declared.ended.Ended.TheVariants.{TooManyTurns}

abbrev pub with_batches : Accepted → List Submission → Accepted
with_batches a bs = accepted a.base a.folded (a.list ++ bs)

abbrev pub plain_told : Setting → Accepted → Telling
plain_told v state = telling v (status_of state) (length state.folded) []

abbrev pub PlainGives : Setting → Accepted → Event → Accepted → Type 0
PlainGives v state (put batch (Ok kept)) after = Puts v state batch (Ok kept) after
PlainGives v state (put batch (Err (Refuses fault))) after = Puts v state batch (Err fault) after
PlainGives v state (put batch (Err LogFull)) after = ⊥
PlainGives v state (put batch (Err LogFailed)) after = ⊥
PlainGives v state (cell r c count) after = (count ≡ cell_of state r c) × (after ≡ state)
PlainGives v state (row r sum) after = (sum ≡ row_sum_of state r) × (after ≡ state)
PlainGives v state (status s) after = (s ≡ status_of state) × (after ≡ state)
PlainGives v state (export (Ok m)) after = (m ≡ export_of v state) × (after ≡ state)
PlainGives v state (export (Err e)) after = after ≡ state
PlainGives v state (save answer) after = (answer ≡ Err SaveOff) × (after ≡ state)
PlainGives v state (stored s) after = (s ≡ status_of state) × (after ≡ state)
PlainGives v state (stats (Ok told)) after = (told ≡ plain_told v state) × (after ≡ state)
PlainGives v state (stats (Err e)) after = after ≡ state
PlainGives v state (fold (Ok folded)) after = (folded ≡ count_in state) × (after ≡ folded_into (summed state) state)
PlainGives v state (fold (Err refusal)) after = (refusal ≡ no_fold.Memory) × (after ≡ state)

-- What was accepted is the same, and of the batches that weren't folded so many first ones are: their entries and the
-- sum of all stay.
pub record IsFolded (a t : Accepted) : Type 0 where
  pub count : ℕ
  pub within : count ≤ length a.list
  pub state : t ≡ folded_to count a

abbrev pub AnswersMessages : {S : Type 0} → (S → Event → S → Type 0) → Setting → S → List Message → List ℕ → S → Type 0
AnswersMessages gives setup s [] bytes t = (bytes ≡ []) × (t ≡ s)
AnswersMessages gives setup s (Ok Stop ∷ ms) bytes t = (bytes ≡ stopping) × (t ≡ s)
AnswersMessages gives setup s (Ok r ∷ ms) bytes t =
    (m : _) × (reply : List ℕ) × (more : List ℕ) × Answers gives setup r reply s m × (bytes ≡ reply ++ more) ×
    AnswersMessages gives setup m ms more t
AnswersMessages gives setup s (Err fault ∷ ms) bytes t = (bytes ≡ refused (fault_code fault) 0) × (t ≡ s)

abbrev pub IsAnswered : Setting → Accepted → List Message → List ℕ → Accepted → Type 0
IsAnswered v state ms bytes after = AnswersMessages (PlainGives v) v state ms bytes after

-- the messages of sessions, one after another, are answered, and lead from a state to a state
abbrev pub AreAnswered : Setting → Accepted → List (List Message) → Accepted → Type 0
AreAnswered v state [] after = after ≡ state
AreAnswered v state (ms ∷ sessions) after =
    (bytes : List ℕ) × (mid : Accepted) × IsAnswered v state ms bytes mid × AreAnswered v mid sessions after

-- the request puts this batch, which is fresh
abbrev pub PutsFresh : Setting → Accepted → Request → Submission → Type 0
PutsFresh v state (Put client n bytes) batch = PutsBatch v client n bytes batch × (verdict_in v state batch ≡ Fresh)
PutsFresh v state (PutCells client n bytes) batch =
    PutsCells v client n bytes batch × (verdict_in v state batch ≡ Fresh)
PutsFresh v state r batch = ⊥

-- These messages, one after another, add just these batches to what was accepted: each puts one that is fresh, or none.
-- A Stop and a bad header are the last.
abbrev pub FreshPuts : Setting → Accepted → List Message → List Submission → Type 0
FreshPuts v state [] more = more ≡ []
FreshPuts v state (Ok Stop ∷ ms) more = more ≡ []
FreshPuts v state (Ok r ∷ ms) more =
    (((batch : Submission) → PutsFresh v state r batch → ⊥) × FreshPuts v state ms more)
    ⊎ ((batch : Submission) × (rest : List Submission) × PutsFresh v state r batch × (more ≡ batch ∷ rest) ×
    FreshPuts v (with_batch state batch) ms rest)
FreshPuts v state (Err fault ∷ ms) more = more ≡ []

-- a put under this client and this number, of a text or of cells
abbrev pub IsPut : ℕ → ℕ → Request → Type 0
IsPut client number (Put c n bytes) = (c ≡ client) × (n ≡ number)
IsPut client number (PutCells c n bytes) = (c ≡ client) × (n ≡ number)
IsPut client number r = ⊥

-- none of these messages is a Fold
abbrev pub NoneFolds : List Message → Type 0
NoneFolds [] = Unit {0}
NoneFolds (m ∷ ms) = (m ≡ Ok Fold → ⊥) × NoneFolds ms

-- these are requests, none of them a Stop
abbrev pub GoOn : List Request → Type 0
GoOn [] = Unit {0}
GoOn (r ∷ rs) = (r ≡ Stop → ⊥) × GoOn rs

-- Behind a message, puts that were answered, and whose replies weren't sent: at most 63. Their batches stay accepted.
pub record PutsUnsent (v : Setting) (state after : Accepted) (behind : List Message) : Type 0 where
  pub puts : List Request
  pub all_put : AllPut puts
  pub few : length puts < 64
  pub replies : List ℕ
  pub answered : IsAnswered v state (map (λ r. Ok r) puts) replies after
  pub rest : List Message
  pub stand : behind ≡ map (λ r. Ok r) puts ++ rest

module _ {L : Type 0} (reads : L → Answer → L → Type 0) (writes : L → List ℕ → Answer → L → Type 0) (failures : L → ℕ)
    (v : Setting) where
  -- The link gave these bytes, and took the answers to their messages.
  pub record Exchange (l l' : L) (state after : Accepted) (turns : ℕ) : Type 0 where
    pub given : List ℕ
    pub taken : List ℕ
    pub talks : Talks reads writes l l' given taken turns
    pub answers : IsAnswered v state (messages given) taken after

  -- The same, of a session that ended between two replies: no message was a Stop or a bad header, and these bytes of
  -- what the link gave stand behind the last of them.
  pub record Between (l l' : L) (state after : Accepted) (kept : List ℕ) (turns : ℕ) : Type 0 where
    pub exchange : Exchange l l' state after turns
    pub requests : List Request
    pub cut : Gives exchange.given requests kept
    pub none : front kept ≡ None
    pub go_on : GoOn requests

  -- The same, of a session that stood so with no call failed, and whose last call was a read that failed.
  pub record FailsToRead (l l' : L) (state after : Accepted) (turns : ℕ) : Type 0 where
    pub kept : List ℕ
    pub at : L
    pub before : ℕ
    pub between : Between l at state after kept before
    pub unfailed : failures at ≡ failures l
    pub fault : DeviceFault
    pub failed : reads at (Err fault) l'
    pub count : failures l' ≡ failures l + 1
    pub turns_are : turns ≡ before + 1

  -- The same, of a session whose last message is this one.
  pub record WithLast (l l' : L) (state after : Accepted) (turns : ℕ) (last : Message) : Type 0 where
    pub exchange : Exchange l l' state after turns
    pub before : List Message
    pub last_is : messages exchange.given ≡ before ++ last ∷ []

  -- The link took the answers to the first of these messages, and then these bytes; this was accepted by then.
  pub record Partly (l l' : L) (state : Accepted) (turns : ℕ) (replies behind : List ℕ) (mid : Accepted)
      (rest : List Message) : Type 0 where
    pub given : List ℕ
    pub talks : Talks reads writes l l' given (replies ++ behind) turns
    pub requests : List Request
    pub split : messages given ≡ map (λ r. Ok r) requests ++ rest
    pub answers : IsAnswered v state (map (λ r. Ok r) requests) replies mid

  -- Memory ran out behind some messages: so the last reply is that it did, and nothing of the next message was kept.
  pub record OutOfMemory (l l' : L) (state after : Accepted) (turns : ℕ) : Type 0 where
    pub replies : List ℕ
    pub rest : List Message
    pub partly : Partly l l' state turns replies (refused 1 0) after rest

  -- The link refused to take more of a reply: of that to the next message, whose batch stays accepted if it was, or of
  -- that which says that memory ran out.
  pub record Broken (l l' : L) (state after : Accepted) (turns n : ℕ) : Type 0 where
    pub replies : List ℕ
    pub reply : List ℕ
    pub some : ℕ
    pub mid : Accepted
    pub rest : List Message
    pub partly : Partly l l' state turns replies (take some reply) mid rest
    pub proper : some < length reply
    pub count : n ≡ length replies + some
    pub reply_is :
        ((m : Message) × (others : List Message) × (next : Accepted) × (rest ≡ m ∷ others) ×
        IsAnswered v mid (m ∷ []) reply next × PutsUnsent v next after others)
        ⊎ ((reply ≡ refused 1 0) × (after ≡ mid))
    pub at : L
    pub unfailed : failures at ≡ failures l
    pub text : List ℕ
    pub earlier : List ℕ
    pub later : List ℕ
    pub text_is : text ≡ earlier ++ (reply ++ later)
    pub refused_by : HasStopped writes failures at l' text (length earlier + some)

  -- how a session of at most `most` turns ends
  abbrev pub EndsPlain : (L → Type 0) → L → L → Accepted → Accepted → ℕ → ℕ → Ended → Type 0
  EndsPlain at_end l l' state after most turns (Closed rest) =
      (kept : List ℕ) × (length kept ≡ rest) × at_end l' × Between l l' state after kept turns
  EndsPlain at_end l l' state after most turns ReadFault = FailsToRead l l' state after turns
  EndsPlain at_end l l' state after most turns TooManyTurns =
      (kept : List ℕ) × (turns ≡ most) × (b : Between l l' state after kept turns) × (most ≤ length b.exchange.given)
  EndsPlain at_end l l' state after most turns Stopped = WithLast l l' state after turns (Ok Stop)
  EndsPlain at_end l l' state after most turns BadFrame = (fault : FrameFault) ×
      WithLast l l' state after turns (Err fault)
  EndsPlain at_end l l' state after most turns Memory = OutOfMemory l l' state after turns
  EndsPlain at_end l l' state after most turns (WriteFault n) = Broken l l' state after turns n
