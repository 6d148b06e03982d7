-- A log beside the list of a snapshot.
--     known_entries v         the entries of a list, the folded ones first
--     log_behind es h log     a log as the lives of a server see it: the batches before it are those of the list, where
--                             its head is linked to them
--     IsLinked s es h         the head's dimensions fit into the setup's, and it names the number, the total and the
--                             entries of the first batches of the list
--     Agrees first es log     where both have a place, both have the same entry
--     joined s v h bs         the list, and behind it the log's batches at places from the list's end on, in matrices of
--                             the setup's dimensions
--     Joins s v h bs list     a start takes both, and the list is this; the setup, which may be another than the head's,
--                             judges it
--     RefusesLists s v h bs f by cases: what is so where a start refuses, and that no earlier refusal holds, beside books
--     RefusesJoin s i v h bs f
--                             so for a snapshot of this identity: another book is refused before all else
use Rattle.std.specs.Prelude.{◌≡◌, ◌≢◌, ◌⊎◌, ℕ, ◌+◌, ◌-◌, ◌<◌, ◌≤◌, List, [], ◌∷◌, ◌++◌, length, take, drop, slice_get}
use Rattle.batch_store.specs.declared.verdict.Entry.{Entry}
use Rattle.batch_store.specs.declared.verdict.Verdict.TheVariants.{Fresh}
use Rattle.batch_store.specs.Setups.{Setting}
use Rattle.batch_store.specs.Batches.{Submission, entries_of}
use Rattle.batch_store.specs.Accepted.{entries_in}
use Rattle.batch_store.specs.Books.{Listing, listing, accepted_in, AreAccepted}
use Rattle.batch_store.specs.Growth.{FitsIn, all_widened}
use Rattle.batch_store.specs.Verdicts.{AllFresh, total_of_entries, verdict_of}
use Rattle.snap_file.specs.Origins.{IsOtherBook}
use Rattle.snap_file.specs.declared.origin.Identity.{Identity}
use Rattle.log_head.specs.Links.{link_in}
use Rattle.log_head.specs.declared.head.LogHead.{LogHead}
use Rattle.log_lives.specs.Lives.{Log, log, restored, IsTaken}
use Rattle.log_join.specs.declared.fault.JoinFault.{JoinFault}
use Rattle.log_join.specs.declared.fault.JoinFault.TheVariants.{SetupDiffers, Gap, LinkDiffers, EntryDiffers, NotFresh}
use Rattle.log_join.specs.declared.fault.JoinFault.TheVariants.{Memory, OtherBook}

abbrev pub known_entries : Listing → List Entry
known_entries v = entries_in (accepted_in v)

abbrev pub log_behind : List Entry → LogHead → List Entry → Log
log_behind es h entries = log (take h.first es) entries []

pub record IsLinked (s : Setting) (es : List Entry) (h : LogHead) : Type 0 where
  pub setup : FitsIn h.setup s
  pub no_gap : h.first ≤ length es
  pub total : total_of_entries (take h.first es) ≡ h.total
  pub link : link_in (take h.first es) ≡ h.link

abbrev pub Agrees : ℕ → List Entry → List Entry → Type 0
Agrees first es entries =
    (i : ℕ) → first + i < length es → i < length entries → slice_get es (first + i) ≡ slice_get entries i

-- The log's entry at this place, which the list has too, is another one, and those before it are the same.
pub record DiffersAt (first : ℕ) (es entries : List Entry) (at : ℕ) : Type 0 where
  pub index : ℕ
  pub at_is : at ≡ first + index
  pub within : at < length es
  pub logged : index < length entries
  pub same : (i : ℕ) → i < index → slice_get es (first + i) ≡ slice_get entries i
  pub differs : slice_get es at ≢ slice_get entries index

-- the batches behind the list up to this place are fresh, and the one there isn't
pub record StaleAt (limit most : ℕ) (es more : List Entry) (at : ℕ) : Type 0 where
  pub front : List Entry
  pub entry : Entry
  pub behind : List Entry
  pub parts : more ≡ front ++ entry ∷ behind
  pub fresh : AllFresh limit most es front
  pub stale : verdict_of limit most (es ++ front) entry ≢ Fresh
  pub at_is : at ≡ length es + length front

-- what the log has behind the end of the list
abbrev pub behind_end : {X : Type 0} → List Entry → LogHead → List X → List X
behind_end es h xs = drop (length es - h.first) xs

abbrev pub joined : Setting → Listing → LogHead → List Submission → Listing
joined s v h bs = listing v.base v.folded (v.list ++ all_widened s (behind_end (known_entries v) h bs))

-- no refusal but NotFresh stands
pub record IsBeside (s : Setting) (es : List Entry) (h : LogHead) (entries : List Entry) : Type 0 where
  pub linked : IsLinked s es h
  pub same : Agrees h.first es entries

pub record Joins (s : Setting) (v : Listing) (h : LogHead) (bs : List Submission) (list : Listing) : Type 0 where
  pub beside : IsBeside s (known_entries v) h (entries_of bs)
  pub taken : IsTaken (known_entries v) (log_behind (known_entries v) h (entries_of bs))
  pub fresh : AllFresh s.limit s.max_batches (known_entries v) (behind_end (known_entries v) h (entries_of bs))
  pub list_is : list ≡ joined s v h bs
  pub restored_is : known_entries list ≡ restored (known_entries v) (log_behind (known_entries v) h (entries_of bs))
  pub accepted : AreAccepted s (accepted_in list)

pub record HasGap (s : Setting) (es : List Entry) (h : LogHead) (first : ℕ) : Type 0 where
  pub setup : FitsIn h.setup s
  pub gap : length es < h.first
  pub first_is : first ≡ h.first

pub record IsUnlinked (s : Setting) (es : List Entry) (h : LogHead) : Type 0 where
  pub setup : FitsIn h.setup s
  pub no_gap : h.first ≤ length es
  pub differs : total_of_entries (take h.first es) ≡ h.total → link_in (take h.first es) ≡ h.link → ⊥

abbrev pub RefusesLists : Setting → Listing → LogHead → List Submission → JoinFault → Type 0
RefusesLists s v h bs SetupDiffers = FitsIn h.setup s → ⊥
RefusesLists s v h bs (Gap first) = HasGap s (known_entries v) h first
RefusesLists s v h bs LinkDiffers = IsUnlinked s (known_entries v) h
RefusesLists s v h bs (EntryDiffers at) =
    IsLinked s (known_entries v) h × DiffersAt h.first (known_entries v) (entries_of bs) at
RefusesLists s v h bs (NotFresh at) =
    IsBeside s (known_entries v) h (entries_of bs)
    × StaleAt s.limit s.max_batches (known_entries v) (behind_end (known_entries v) h (entries_of bs)) at
RefusesLists s v h bs Memory = IsBeside s (known_entries v) h (entries_of bs)
RefusesLists s v h bs OtherBook = ⊥

abbrev pub RefusesJoin : Setting → Identity → Listing → LogHead → List Submission → JoinFault → Type 0
RefusesJoin s i v h bs f =
    ((f ≡ OtherBook) × IsOtherBook i h.identity)
    ⊎ ((IsOtherBook i h.identity → ⊥) × RefusesLists s v h bs f)
