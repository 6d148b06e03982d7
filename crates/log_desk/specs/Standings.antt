-- What contracts see of a log in use, and of the state behind the desk's lock.
--     Standing        the entries that are known as durable, whether a call on the log has failed, and how many pages
--                     are ready in it
--     DeskStanding    that of the log as it was put back last, with what was heard of it since; how many pages are
--                     promised; and whether the turn is there, or a thread has it. No page is counted as ready while
--                     the log may be exchanged.
--     IsNamed log has the log has the path under which it is to be, if there is one
--     IsWord synced word
--                     what logs of a type have answered to have synced, the log of the engine has
--     EndsBefore synced known index from
--                     a log has answered Ok to a sync of this number of entries, which begin what is known as durable;
--                     and that doesn't reach this index
--     IsGroup         the entries of some batches stand behind those that were durable, and of the pages that were ready
--                     no more are gone than a block of these batches takes
use Rattle.std.specs.Prelude.{◌≡◌, ℕ, ◌+◌, ◌≤◌, List, ◌++◌, length, Bool, Option, Some}
use mathlib.Core.List.{IsPrefix}
use Rattle.batch_store.specs.declared.verdict.Entry.{Entry}
use Rattle.batch_store.specs.Batches.{Submission, entries_of}

pub record Standing : Type 0 where
  pub durable : List Entry
  pub failed : Bool
  pub room : ℕ

abbrev pub standing : List Entry → Bool → ℕ → Standing
standing durable failed room = record { durable = durable; failed = failed; room = room }

pub record DeskStanding : Type 0 where
  pub log : Standing
  pub promised : ℕ
  pub home : Bool

abbrev pub desk_standing : Standing → ℕ → Bool → DeskStanding
desk_standing log promised home = record { log = log; promised = promised; home = home }

abbrev pub IsNamed : Option (List ℕ) → (List ℕ → Type 0) → Type 0
IsNamed log has = (path : List ℕ) → log ≡ Some path → has path

abbrev pub IsWord : (List Entry → Type 0) → (List Entry → Type 0) → Type 0
IsWord synced word = (es : List Entry) → synced es → word es

pub record EndsBefore (synced : List Entry → Type 0) (known : List Entry) (index from : ℕ) : Type 0 where
  pub entries : List Entry
  pub durable : synced entries
  pub count : length entries ≡ from
  pub begins : IsPrefix entries known
  pub short : length known ≤ index

pub record IsGroup (takes : List Submission → ℕ) (old new : List Entry) (before after : ℕ) : Type 0 where
  pub list : List Submission
  pub entries : new ≡ old ++ entries_of list
  pub room : before ≤ after + takes list
