-- The core as a world of events, for any interleaving of several puts.
--     World           what was accepted, a record for each shard, and the parts in flight: admitted, not yet delivered.
--                     Beside its record a shard has its part of the base, which no event changes
--     Event           Admit(b): the book takes b in; Deliver(b, s): shard s takes in its part of b
--     Steps           an event is lawful in a world, and leaves another
--     Runs            lawful events one after another
--     Starts          where a run may start: nothing in flight, and each record follows the batches that aren't folded
--     StepsLocked     a step where, besides, an Admit finds no part in flight for a shard that its batch concerns
--     RunsLocked      such steps one after another
--     held_in         what a world holds: the contents of its records, their bases included, and the parts in flight
use Rattle.std.specs.Prelude.{◌≡◌, ℕ, zero, suc, ◌+◌, ◌<◌, false, if◌then◌else◌, List, [], ◌∷◌, ◌++◌, length}
use Rattle.std.specs.FinMap.{empty}
use Rattle.std.specs.List.{IsDistinct}
use Rattle.hyper_matrix.specs.Counts.{Counts, ewise_add, part}
use Rattle.batch_store.specs.declared.verdict.Verdict.TheVariants.{Fresh}
use Rattle.batch_store.specs.Setups.{Setting}
use Rattle.batch_store.specs.Accepted.{Accepted, entries_in, with_batch}
use Rattle.batch_store.specs.Batches.{Submission}
use Rattle.batch_store.specs.Parts.{concerns, record_content}
use Rattle.batch_store.specs.Verdicts.{same_pair}
use Rattle.plain_engine.specs.Object.{verdict_in}
use Rattle.plain_engine.specs.Records.{Follows}

-- a batch's part for a shard
pub record Part : Type 0 where
  pub batch : Submission
  pub shard : ℕ

pub record World : Type 0 where
  pub book : Accepted
  pub records : List (List Submission)
  pub flight : List Part

abbrev pub world : Accepted → List (List Submission) → List Part → World
world book records flight = record { book = book; records = records; flight = flight }

pub data Event : Type 0 where
  Admit : Submission → Event
  Deliver : Submission → ℕ → Event

abbrev pub part_for : Submission → ℕ → Part
part_for b s = record { batch = b; shard = s }

-- the parts of a batch for those of the first n shards, of k, that it concerns
abbrev pub parts_for : Submission → ℕ → ℕ → List Part
parts_for b k zero = []
parts_for b k (suc n) = if concerns n k b.matrix.counts then parts_for b k n ++ part_for b n ∷ [] else parts_for b k n

-- the record of shard s, and nothing where there is no such shard
abbrev pub record_at : List (List Submission) → ℕ → List Submission
record_at [] s = []
record_at (r ∷ rs) zero = r
record_at (r ∷ rs) (suc s) = record_at rs s

-- the records with a batch more at the end of record s
abbrev pub append_at : List (List Submission) → ℕ → Submission → List (List Submission)
append_at [] s b = []
append_at (r ∷ rs) zero b = (r ++ b ∷ []) ∷ rs
append_at (r ∷ rs) (suc s) b = r ∷ append_at rs s b

-- a part leaves flight, and its batch stands at the end of its shard's record
pub record Delivers (w : World) (b : Submission) (s : ℕ) (u : World) : Type 0 where
  pub before : List Part
  pub behind : List Part
  pub was : w.flight ≡ before ++ part_for b s ∷ behind
  pub now : u ≡ world w.book (append_at w.records s b) (before ++ behind)

-- a batch that the book calls fresh stands at its end, and its parts are in flight
pub record Admits (v : Setting) (w : World) (b : Submission) (u : World) : Type 0 where
  pub fresh : verdict_in v w.book b ≡ Fresh
  pub now : u ≡ world (with_batch w.book b) w.records (w.flight ++ parts_for b v.shards v.shards)

abbrev pub Steps : Setting → World → Event → World → Type 0
Steps v w (Admit b) u = Admits v w b u
Steps v w (Deliver b s) u = Delivers w b s u

abbrev pub Runs : Setting → World → List Event → World → Type 0
Runs v w [] u = u ≡ w
Runs v w (e ∷ es) u = (next : World) × (Steps v w e next × Runs v next es u)

-- no part is in flight for a shard, of k, that the batch concerns
abbrev pub FindsFree : ℕ → Submission → List Part → Type 0
FindsFree k b [] = Unit {0}
FindsFree k b (p ∷ ps) = (concerns p.shard k b.matrix.counts ≡ false) × FindsFree k b ps

abbrev pub StepsLocked : Setting → World → Event → World → Type 0
StepsLocked v w (Admit b) u = FindsFree v.shards b w.flight × Admits v w b u
StepsLocked v w (Deliver b s) u = Delivers w b s u

abbrev pub RunsLocked : Setting → World → List Event → World → Type 0
RunsLocked v w [] u = u ≡ w
RunsLocked v w (e ∷ es) u = (next : World) × (StepsLocked v w e next × RunsLocked v next es u)

-- each record follows the list
abbrev pub AllFollow : ℕ → List (List Submission) → List Submission → Type 0
AllFollow k records list = (s : ℕ) → s < k → Follows s k (record_at records s) list

pub record Starts (v : Setting) (w : World) : Type 0 where
  pub some : 0 < v.shards
  pub distinct : IsDistinct same_pair (entries_in w.book)
  pub count : length w.records ≡ v.shards
  pub flight : w.flight ≡ []
  pub follow : AllFollow v.shards w.records w.book.list

-- the contents of records over this base, of which the first is that of shard i of k
abbrev pub records_content : ℕ → ℕ → Counts → List (List Submission) → Counts
records_content i k base [] = empty
records_content i k base (r ∷ rs) =
    ewise_add (record_content i k (part base i k) r) (records_content (i + 1) k base rs)

-- the sum of the parts in flight, for k shards
abbrev pub flight_content : ℕ → List Part → Counts
flight_content k [] = empty
flight_content k (p ∷ ps) = ewise_add (part p.batch.matrix.counts p.shard k) (flight_content k ps)

abbrev pub held_in : ℕ → World → Counts
held_in k w = ewise_add (records_content 0 k w.book.base w.records) (flight_content k w.flight)

-- the delivery of each of these parts
abbrev pub deliveries : List Part → List Event
deliveries [] = []
deliveries (p ∷ ps) = Deliver p.batch p.shard ∷ deliveries ps
