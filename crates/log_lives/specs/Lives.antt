-- The lives of a server that keeps a snapshot and a log, as a world of events, in whatever order calls fail, programs
-- are killed and power is lost.
--     Log             what a log's file holds: the batches before it, which its head names, the batches of its whole
--                     blocks, and those of the block that is being written behind them
--     World           whether a life goes on; the book of the present life, or of the last one; every answer that any
--                     life gave; the files under the two names, and what else a loss of power may put under each
--     Event, Steps    what may happen, and when it is lawful
--     Runs            lawful events one after another
--     restored s l    the list that a start gives from a snapshot and a log
--     IsTaken s l     a start refuses neither: the log begins within the snapshot, names the batches that stand there,
--                     has the same where both have a place, and no client and number stands twice
--     Outcome         what a loss of power may leave of the two files
--     a_loss_of_power the events of a first life that acknowledges one batch, a loss of power, and a start
use Rattle.std.specs.Prelude.{◌≡◌, ◌⊎◌, ℕ, ◌-◌, ◌<◌, ◌≤◌, Bool, true, false, List, [], ◌∷◌, ◌++◌, length, take, drop}
use Rattle.std.specs.Prelude.{slice_get}
use Rattle.std.specs.List.{IsDistinct}
use mathlib.Core.List.{IsPrefix}
use Rattle.batch_store.specs.declared.verdict.Entry.{Entry}
use Rattle.batch_store.specs.declared.verdict.Kept.{Kept}
use Rattle.batch_store.specs.declared.verdict.Verdict.TheVariants.{Fresh, Known}
use Rattle.batch_store.specs.Verdicts.{verdict_of, same_pair, kept}

pub record Log : Type 0 where
  pub before : List Entry
  pub whole : List Entry
  pub torn : List Entry

abbrev pub log : List Entry → List Entry → List Entry → Log
log before whole torn = record { before = before; whole = whole; torn = torn }

-- the batches up to the end of the whole blocks
abbrev pub up_to_end : Log → List Entry
up_to_end l = l.before ++ l.whole

-- the log as it is read where the block in the making is whole, and where it isn't
abbrev pub read_as : Log → Bool → Log
read_as l true = log l.before (l.whole ++ l.torn) []
read_as l false = log l.before l.whole []

-- an answer: the batch that was put, and its place and the total up to it
pub record Answer : Type 0 where
  pub entry : Entry
  pub kept : Kept

pub record World : Type 0 where
  pub running : Bool
  pub book : List Entry
  pub answers : List Answer
  pub snapshot : List Entry
  pub older_snapshots : List (List Entry)
  pub log : Log
  pub older_logs : List Log
  pub failed : Bool

-- nothing was ever accepted, and neither file is there
abbrev pub at_first : World
at_first = record {
  running = false;
  book = [];
  answers = [];
  snapshot = [];
  older_snapshots = [];
  log = log [] [] [];
  older_logs = [];
  failed = false;
}

abbrev pub IsAmong : {X : Type 0} → X → List X → Type 0
IsAmong x [] = ⊥
IsAmong x (y ∷ ys) = (x ≡ y) ⊎ IsAmong x ys

-- what a loss of power may put under each name: what is there, or what was there before a rename that isn't durable
abbrev pub snapshots_of : World → List (List Entry)
snapshots_of w = w.snapshot ∷ w.older_snapshots

abbrev pub logs_of : World → List Log
logs_of w = w.log ∷ w.older_logs

-- the snapshot's list, and behind it what the log has from there on
abbrev pub restored : List Entry → Log → List Entry
restored s l = s ++ drop (length s - length l.before) l.whole

pub record IsTaken (s : List Entry) (l : Log) : Type 0 where
  pub no_gap : length l.before ≤ length s
  pub linked : IsPrefix l.before s
  pub same : (i : ℕ) → i < length s → i < length (up_to_end l) → slice_get s i ≡ slice_get (up_to_end l) i
  pub distinct : IsDistinct same_pair (restored s l)

pub data Event : Type 0 where
  -- the book takes a batch in
  Admit : Entry → Event
  -- a block of these batches is begun behind the log; its sync answered Ok; a write or a sync of the log failed
  Append : List Entry → Event
  Sync : Event
  Fail : Event
  -- a put of this batch is answered
  Acknowledge : Answer → Event
  -- a file that was synced takes a name: a snapshot of this list; a log with these before it and these in it
  RenameSnapshot : List Entry → Event
  RenameLog : List Entry → List Entry → Event
  -- the folder of a name was synced
  SyncSnapshotName : Event
  SyncLogName : Event
  -- the program ends at once; the power is lost, which leaves these files, of the log with the last block or without
  Kill : Event
  LosePower : List Entry → Log → Bool → Event
  -- a start has cut the log behind its blocks, with the last one or without, written that again, and synced it
  Settle : Bool → Event
  -- a start hands out the list
  Start : List Entry → Event

pub record Admits (limit most : ℕ) (w : World) (b : Entry) (u : World) : Type 0 where
  pub running : w.running ≡ true
  pub fresh : verdict_of limit most w.book b ≡ Fresh
  pub now : u ≡ record w { book = w.book ++ b ∷ [] }

-- a block goes behind a log in use, no other is being written, and it has what the book has there
pub record Appends (w : World) (block : List Entry) (u : World) : Type 0 where
  pub running : w.running ≡ true
  pub working : w.failed ≡ false
  pub named : w.older_logs ≡ []
  pub alone : w.log.torn ≡ []
  pub next : IsPrefix (up_to_end w.log ++ block) w.book
  pub now : u ≡ record w { log = log w.log.before w.log.whole block }

pub record Syncs (w u : World) : Type 0 where
  pub running : w.running ≡ true
  pub working : w.failed ≡ false
  pub now : u ≡ record w { log = read_as w.log true }

pub record Fails (w u : World) : Type 0 where
  pub now : u ≡ record w { failed = true }

-- the place is durable: every log that a loss of power may leave has it
pub record Acknowledges (limit most : ℕ) (w : World) (a : Answer) (u : World) : Type 0 where
  pub running : w.running ≡ true
  pub known : verdict_of limit most w.book a.entry ≡ Known a.kept
  pub durable : (l : Log) → IsAmong l (logs_of w) → a.kept.index < length (up_to_end l)
  pub now : u ≡ record w { answers = a ∷ w.answers }

-- a snapshot has the book's first batches, and no fewer than the one before
pub record RenamesSnapshot (w : World) (s : List Entry) (u : World) : Type 0 where
  pub running : w.running ≡ true
  pub taken : IsPrefix s w.book
  pub no_shorter : length w.snapshot ≤ length s
  pub now : u ≡ record w { snapshot = s; older_snapshots = snapshots_of w }

-- A log begins within a snapshot whose name is durable, and ends no earlier than the log before it.
pub record RenamesLog (w : World) (before whole : List Entry) (u : World) : Type 0 where
  pub named : w.older_snapshots ≡ []
  pub begins : IsPrefix before w.snapshot
  pub taken : IsPrefix (before ++ whole) w.book
  pub no_shorter : length (up_to_end w.log) ≤ length (before ++ whole)
  pub now : u ≡ record w { log = log before whole []; older_logs = logs_of w; failed = false }

pub record LosesPower (w : World) (s : List Entry) (l : Log) (whole : Bool) (u : World) : Type 0 where
  pub snapshot : IsAmong s (snapshots_of w)
  pub log_is : IsAmong l (logs_of w)
  pub now : u ≡ record {
    running = false;
    book = w.book;
    answers = w.answers;
    snapshot = s;
    older_snapshots = [];
    log = read_as l whole;
    older_logs = [];
    failed = false;
  }

pub record Settles (w : World) (whole : Bool) (u : World) : Type 0 where
  pub down : w.running ≡ false
  pub now : u ≡ record w { log = read_as w.log whole; failed = false }

-- both names are durable, no block is in the making, and the log doesn't end before the snapshot does
pub record Begins (w : World) (list : List Entry) (u : World) : Type 0 where
  pub down : w.running ≡ false
  pub snapshot_named : w.older_snapshots ≡ []
  pub log_named : w.older_logs ≡ []
  pub settled : w.log.torn ≡ []
  pub no_shorter : length w.snapshot ≤ length (up_to_end w.log)
  pub list_is : list ≡ restored w.snapshot w.log
  pub now : u ≡ record w { running = true; book = list; failed = false }

abbrev pub Steps : ℕ → ℕ → World → Event → World → Type 0
Steps limit most w (Admit b) u = Admits limit most w b u
Steps limit most w (Append block) u = Appends w block u
Steps limit most w Sync u = Syncs w u
Steps limit most w Fail u = Fails w u
Steps limit most w (Acknowledge a) u = Acknowledges limit most w a u
Steps limit most w (RenameSnapshot s) u = RenamesSnapshot w s u
Steps limit most w (RenameLog before whole) u = RenamesLog w before whole u
Steps limit most w SyncSnapshotName u = u ≡ record w { older_snapshots = [] }
Steps limit most w SyncLogName u = u ≡ record w { older_logs = [] }
Steps limit most w Kill u = u ≡ record w { running = false }
Steps limit most w (LosePower s l whole) u = LosesPower w s l whole u
Steps limit most w (Settle whole) u = Settles w whole u
Steps limit most w (Start list) u = Begins w list u

abbrev pub Runs : ℕ → ℕ → World → List Event → World → Type 0
Runs limit most w [] u = u ≡ w
Runs limit most w (e ∷ es) u = (next : World) × (Steps limit most w e next × Runs limit most next es u)

-- these are the files that a loss of power may leave
pub record Outcome (w : World) (s : List Entry) (l : Log) : Type 0 where
  pub snapshot : IsAmong s (snapshots_of w)
  pub log_was : Log
  pub log_among : IsAmong log_was (logs_of w)
  pub whole : Bool
  pub log_is : l ≡ read_as log_was whole

-- a first life that acknowledges this batch and ends by a loss of power, and the start of the next
abbrev pub a_loss_of_power : Entry → List Event
a_loss_of_power b =
    Start [] ∷ Admit b ∷ Append (b ∷ []) ∷ Sync ∷ Acknowledge (record { entry = b; kept = kept 0 b.total })
    ∷ LosePower [] (log [] (b ∷ []) []) false ∷ Start (b ∷ []) ∷ []
