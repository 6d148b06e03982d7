-- What a roll-up makes of a coarser file, an hour's or a day's, and of the files of closed windows.
--     Window              a closed window: its number, and its snapshot
--     sum_of_window w     what its batches add up to
--     entry_of_window c w the entry under which a coarser file has it, of the client c: how many cells that sum has, and
--                         their total
--     with_window c a w   a list, all folded, with the window: its sum is in the base, and its entry is the last
--     HasEntry a e        the list has this very entry
--     HasNumber a c n     the list has a batch of this client and number
--     IsTakenIn c a w b   b is a with the window taken in: a, where that has the window's very entry; where a has no
--                         batch of the window's number, a with it
--     AreTakenIn c a ws b so one window after another, in the order in which they were given
--     span ws             what windows add up to together
--     AreAdded c a new b  b is a with the entries of these windows at the end, and with their sums
--     IsNumbered g m n    a file that says the window m is of the window n: it says so, and no other number was given; or
--                         it says none, and n was given
--     book_in i           the book of a window's file; of a file without a window none
--     MayGo g o s i t n   a file of this origin and setup is that of the closed window n, of no other book than i, and of
--                         the dimensions of t
--     Roll                the book of the windows so far, and a list
--     Takes c t g w r q   q is r with the file of a window taken in, into a coarser file of the setup t
--     Refuses c t g x r why
--                         the file x is not taken in, for this reason
--     Begins first found x
--                         x is what a coarser file begins as: what was found; else a snapshot of no known book, no window
--                         and no log, without batches, of the setup of the first window's file
--     HasRolled loads reads c gs s u v x
--                         the coarser file was loaded, and then each window's file; the windows were taken in one after
--                         another
--     IsKept saves t x added
--                         so many windows were new; the result was saved where there is one, else nothing
--     TellsTo loads s t fault
--                         what is told of the coarser file's load
--     TellsWindows .. fault
--                         a window's file is refused, or can't be read, only where that is so, once those before it were
--                         taken in
--     TellsRoll .. fault  the coarser file has answered one load and no other call, and one of these two is told; or it
--                         was to be saved with the windows, and its answer is told
--     roll_line added b   the line: how many windows were new, how many batches the coarser file has, and their total
use Rattle.std.specs.Prelude.{◌≡◌, ◌⊎◌, ◌≢◌, ◌+◌, ◌<◌, ◌≤◌, ℕ, List, [], ◌∷◌, ◌++◌, map, take, slice_get}
use Rattle.std.specs.Prelude.{true, false}
use Rattle.std.specs.Prelude.{Option, Some, None, Result, Ok, Err, nat_eq, if◌then◌else◌, codes, decimal}
use Rattle.std.specs.FinMap.{empty, len}
use Rattle.hyper_matrix.specs.Counts.{Counts, ewise_add, total}
use Rattle.batch_store.specs.Setups.{Setting}
use Rattle.batch_store.specs.Accepted.{Accepted, accepted, count_in, entries_in, total_in, summed, unfolded}
use Rattle.batch_store.specs.Books.{accepted_in, listed_in}
use Rattle.batch_store.specs.declared.verdict.Entry.{Entry}
use Rattle.snap_file.specs.Origins.{IsOtherBook, identity, no_window, own, unknown}
use Rattle.snap_file.specs.Snapshots.{Saved, saved}
use Rattle.snap_file.specs.declared.fault.FileFault.{FileFault}
use Rattle.snap_file.specs.declared.fault.SaveFault.{SaveFault}
use Rattle.snap_file.specs.declared.origin.Identity.{Identity}
use Rattle.snap_file.specs.declared.origin.Origin.{Origin}
use Rattle.snap_report.specs.Kept.{HasLoaded, IsFileFault, IsSaveFault, folded_in, most_bytes}
use Rattle.snap_report.specs.declared.fault.CheckFault.{CheckFault}
use Rattle.snap_report.specs.Logged.{HasFound, IsReadFault}
use Rattle.snap_report.specs.Made.{IsLeft}
use Rattle.snap_roll.specs.Has.{IsAt, entry_at}
use Rattle.snap_roll.specs.declared.has.Found.{Found}
use Rattle.snap_roll.specs.declared.roll_fault.RollFault.{RollFault}
use Rattle.snap_roll.specs.declared.roll_fault.RollFault.TheVariants as fault
use Rattle.snap_roll.specs.declared.roll_fault.Refusal.{Refusal}
use Rattle.snap_roll.specs.declared.roll_fault.Refusal.TheVariants as why
use Rattle.snap_roll.specs.declared.roll_fault.Untaken.{Untaken}
use Rattle.snap_roll.specs.declared.roll_fault.Untaken.TheVariants as untaken

pub record Window : Type 0 where
  pub number : ℕ
  pub saved : Saved

abbrev pub window_of : ℕ → Saved → Window
window_of n x = record { number = n; saved = x }

abbrev pub sum_of_window : Window → Counts
sum_of_window w = summed (accepted_in w.saved.list)

-- the entry of this sum
abbrev pub entry_of_sum : ℕ → ℕ → Counts → Entry
entry_of_sum c n sum = record { client = c; number = n; cells = len sum; total = total sum }

abbrev pub entry_of_window : ℕ → Window → Entry
entry_of_window c w = entry_of_sum c w.number (sum_of_window w)

-- a list, all folded, with a batch more of this entry and this sum
abbrev pub with_sum : Accepted → Entry → Counts → Accepted
with_sum a e sum = accepted (ewise_add (summed a) sum) (entries_in a ++ e ∷ []) []

abbrev pub with_window : ℕ → Accepted → Window → Accepted
with_window c a w = with_sum a (entry_of_window c w) (sum_of_window w)

abbrev pub HasEntry : Accepted → Entry → Type 0
HasEntry a e = (i : ℕ) × (entry_at a i ≡ Some e)

abbrev pub HasNumber : Accepted → ℕ → ℕ → Type 0
HasNumber a c n = (found : Found) × IsAt a c n found

-- where the entry and the sum are these
abbrev pub IsAddedTo : Accepted → Entry → Counts → Accepted → Type 0
IsAddedTo a e sum b =
    (HasEntry a e × (b ≡ a)) ⊎ ((HasNumber a e.client e.number → ⊥) × (b ≡ with_sum a e sum))

abbrev pub IsTakenIn : ℕ → Accepted → Window → Accepted → Type 0
IsTakenIn c a w b = IsAddedTo a (entry_of_window c w) (sum_of_window w) b

abbrev pub AreTakenIn : ℕ → Accepted → List Window → Accepted → Type 0
AreTakenIn c a [] b = b ≡ a
AreTakenIn c a (w ∷ ws) b = (next : Accepted) × IsTakenIn c a w next × AreTakenIn c next ws b

-- what windows add up to together
abbrev pub span : List Window → Counts
span [] = empty
span (w ∷ ws) = ewise_add (sum_of_window w) (span ws)

-- a list with the entries of these windows at its end, and their sums in its sum
pub record AreAdded (c : ℕ) (a : Accepted) (new : List Window) (b : Accepted) : Type 0 where
  pub entries : entries_in b ≡ entries_in a ++ map (entry_of_window c) new
  pub sum : summed b ≡ ewise_add (summed a) (span new)

abbrev pub IsNumbered : Option ℕ → ℕ → ℕ → Type 0
IsNumbered None m n = (m ≢ no_window) × (n ≡ m)
IsNumbered (Some g) m n = ((m ≡ no_window) ⊎ (m ≡ g)) × (n ≡ g)

abbrev pub book_in : Identity → Identity
book_in i = if nat_eq i.window no_window then identity 0 0 no_window else identity i.book_high i.book_low no_window

pub record HasDims (s t : Setting) : Type 0 where
  pub rows : s.rows ≡ t.rows
  pub cols : s.cols ≡ t.cols

pub record MayGo (g : Option ℕ) (o : Origin) (s : Setting) (i : Identity) (t : Setting) (n : ℕ) : Type 0 where
  pub numbered : IsNumbered g o.identity.window n
  pub closed : o.has_log ≡ false
  pub one_book : IsOtherBook i (book_in o.identity) → ⊥
  pub dims : HasDims s t

pub record Roll : Type 0 where
  pub book : Identity
  pub state : Accepted

abbrev pub roll : Identity → Accepted → Roll
roll i a = record { book = i; state = a }

pub record Takes (c : ℕ) (t : Setting) (g : Option ℕ) (w : Window) (r q : Roll) : Type 0 where
  pub may : MayGo g w.saved.origin w.saved.setup r.book t w.number
  pub book : q.book ≡ own r.book (book_in w.saved.origin.identity) r.book
  pub taken : IsTakenIn c r.state w q.state

module _ {S : Type 0} (reads : S → ℕ → Result Saved CheckFault → S → Type 0) (c : ℕ) (t : Setting) where
  -- one file after another was loaded, from u to v, and its window taken in
  abbrev pub HaveRolled : List (Option ℕ) → List Window → S → Roll → S → Roll → Type 0
  HaveRolled [] [] u r v q = (u ≡ v) × (r ≡ q)
  HaveRolled (g ∷ gs) (w ∷ ws) u r v q = (m : S) × (next : Roll) × HasLoaded reads u m w.saved × Takes c t g w r next
      × HaveRolled gs ws m next v q
  HaveRolled _ _ u r v q = ⊥

-- why the file of a window is refused before its sum is looked at
abbrev pub IsOtherWindow : Option ℕ → ℕ → Type 0
IsOtherWindow None m = ⊥
IsOtherWindow (Some g) m = (m ≢ no_window) × (m ≢ g)

abbrev pub RefusesFile : Option ℕ → Origin → Setting → Identity → Setting → Refusal → Type 0
RefusesFile g o s i t why.NoWindow = (g ≡ None) × (o.identity.window ≡ no_window)
RefusesFile g o s i t why.NotClosed = o.has_log ≡ true
RefusesFile g o s i t why.OtherBook = IsOtherWindow g o.identity.window ⊎ IsOtherBook i (book_in o.identity)
RefusesFile g o s i t why.DimensionsDiffer = HasDims s t → ⊥
RefusesFile g o s i t _ = ⊥

-- why a batch of this entry is refused beside a list: another entry has its number; or it is new, and a limit is passed
abbrev pub RefusesEntry : Setting → Accepted → Entry → Refusal → Type 0
RefusesEntry t a e why.NumberReused = (found : Found) × IsAt a e.client e.number found × (found.entry ≢ e)
RefusesEntry t a e why.OverTotal = (HasNumber a e.client e.number → ⊥) × (t.limit < total_in a + e.total)
RefusesEntry t a e why.BookFull = (HasNumber a e.client e.number → ⊥) × (t.max_batches ≤ count_in a)
RefusesEntry t a e _ = ⊥

abbrev pub Refuses : ℕ → Setting → Option ℕ → Saved → Roll → Refusal → Type 0
Refuses c t g x r why =
    RefusesFile g x.origin x.setup r.book t why
    ⊎ ((n : ℕ) × MayGo g x.origin x.setup r.book t n × RefusesEntry t r.state (entry_of_window c (window_of n x)) why)

abbrev pub Untakes : ℕ → Setting → Option ℕ → Saved → Roll → Untaken → Type 0
Untakes c t g x r (untaken.Refused why) = Refuses c t g x r why
Untakes c t g x r untaken.Memory = Unit {0}

-- a file that windows may be rolled into
pub record IsCoarser (x : Saved) : Type 0 where
  pub none : x.origin.identity.window ≡ no_window
  pub closed : x.origin.has_log ≡ false

abbrev pub first_setup : List Window → Setting → Setting
first_setup [] s = s
first_setup (w ∷ ws) s = w.saved.setup

-- an empty one of a setup
abbrev pub begun_empty : Setting → Saved
begun_empty s = saved unknown s (listed_in s (unfolded []))

abbrev pub Begins : Setting → Option Saved → Saved → Type 0
Begins first (Some x) begun = (begun ≡ x) × IsCoarser x
Begins first None begun = begun ≡ begun_empty first

-- a coarser file that was read, and what was made of it
pub record Made (F : Type 0) : Type 0 where
  pub found : Option Saved
  pub begun : Saved
  pub loaded : F
  pub windows : List Window
  pub last : Roll

abbrev pub begun_roll : Saved → Roll
begun_roll x = roll unknown.identity (folded_in x.list)

pub record HasRolled {F S : Type 0} (loads : F → ℕ → Result Saved FileFault → F → Type 0)
    (reads : S → ℕ → Result Saved CheckFault → S → Type 0) (c : ℕ) (gs : List (Option ℕ)) (s : F) (u v : S)
    (x : Made F) : Type 0 where
  pub loaded : HasFound loads s x.loaded x.found
  pub begun : Begins (first_setup x.windows x.begun.setup) x.found x.begun
  pub rolled : HaveRolled reads c x.begun.setup gs x.windows u (begun_roll x.begun) v x.last

-- so many windows were new; where there is one, the result was saved, else nothing
pub record IsKept {F : Type 0} (saves : F → Origin → Setting → Accepted → Result (Unit {0}) SaveFault → F → Type 0)
    (t : F) (x : Made F) (added : ℕ) : Type 0 where
  pub added_is : count_in x.last.state ≡ count_in (accepted_in x.begun.list) + added
  pub saved : ((added ≡ 0) × (t ≡ x.loaded))
      ⊎ ((0 < added) × saves x.loaded x.begun.origin x.begun.setup x.last.state (Ok tt) t)

-- the file of this number was refused, once those before it were taken in
pub record IsRefused {S : Type 0} (reads : S → ℕ → Result Saved CheckFault → S → Type 0) (c : ℕ) (gs : List (Option ℕ))
    (found : Option Saved) (u v : S) (at : ℕ) (told : Refusal) : Type 0 where
  pub begun : Saved
  pub windows : List Window
  pub state : Roll
  pub place : S
  pub given : Option ℕ
  pub file : Saved
  pub begins : Begins (first_setup windows file.setup) found begun
  pub rolled : HaveRolled reads c begun.setup (take at gs) windows u (begun_roll begun) place state
  pub given_is : slice_get gs at ≡ Some given
  pub loaded : HasLoaded reads place v file
  pub refused : Refuses c begun.setup given file state told

-- the file of this number couldn't be read, once those before it were taken in
abbrev pub IsUnread : {S : Type 0} → (S → ℕ → Result Saved CheckFault → S → Type 0) → ℕ → List (Option ℕ) →
    Option Saved → S → S → ℕ → CheckFault → Type 0
IsUnread {S} reads c gs found u v at told =
    IsReadFault told × (((at ≡ 0) × reads u most_bytes (Err told) v)
    ⊎ ((begun : Saved) × (ws : List Window) × (state : Roll) × (place : S)
    × Begins (first_setup ws begun.setup) found begun
    × HaveRolled reads c begun.setup (take at gs) ws u (begun_roll begun) place state
    × reads place most_bytes (Err told) v))

abbrev pub TellsWindows : {S : Type 0} → (S → ℕ → Result Saved CheckFault → S → Type 0) → ℕ → List (Option ℕ) →
    Option Saved → S → S → RollFault → Type 0
TellsWindows reads c gs found u v (fault.Refused at told) = IsRefused reads c gs found u v at told
TellsWindows reads c gs found u v (fault.File at told) = IsUnread reads c gs found u v at told
TellsWindows reads c gs found u v fault.Memory = Unit {0}
TellsWindows reads c gs found u v _ = ⊥

abbrev pub TellsTo : {F : Type 0} → (F → ℕ → Result Saved FileFault → F → Type 0) → F → F → RollFault → Type 0
TellsTo loads s t (fault.To told) = IsFileFault told × (told ≢ FileFault.NotFound) × loads s most_bytes (Err told) t
TellsTo loads s t fault.ToHasWindow = (x : Saved) × HasLoaded loads s t x × (x.origin.identity.window ≢ no_window)
TellsTo loads s t fault.ToNotClosed = (x : Saved) × HasLoaded loads s t x × (x.origin.has_log ≡ true)
TellsTo loads s t fault.Memory = Unit {0}
TellsTo loads s t _ = ⊥

-- why windows aren't rolled into a file
abbrev pub RefusesTo : Saved → RollFault → Type 0
RefusesTo x fault.ToHasWindow = x.origin.identity.window ≢ no_window
RefusesTo x fault.ToNotClosed = x.origin.has_log ≡ true
RefusesTo x _ = ⊥

-- what is told of the window's file of a number
abbrev pub TellsAdded : ℕ → Setting → Option ℕ → ℕ → Saved → Roll → RollFault → Type 0
TellsAdded c t g at x r (fault.Refused number told) = (number ≡ at) × Refuses c t g x r told
TellsAdded c t g at x r fault.Memory = Unit {0}
TellsAdded c t g at x r _ = ⊥

-- what is told of the load of the window's file of a number
abbrev pub TellsFile : {S : Type 0} → (S → ℕ → Result Saved CheckFault → S → Type 0) → S → S → ℕ → RollFault → Type 0
TellsFile reads u v at (fault.File number told) = (number ≡ at) × IsReadFault told × reads u most_bytes (Err told) v
TellsFile reads u v at fault.Memory = Unit {0}
TellsFile reads u v at _ = ⊥

-- the coarser file was to be saved, since a window was new, and has answered so
abbrev pub IsUnsaved : {F S : Type 0} → (F → ℕ → Result Saved FileFault → F → Type 0) →
    (F → Origin → Setting → Accepted → Result (Unit {0}) SaveFault → F → Type 0) →
    (S → ℕ → Result Saved CheckFault → S → Type 0) → ℕ → List (Option ℕ) → F → F → S → S → SaveFault → Type 0
IsUnsaved {F} loads saves reads c gs s t u v told =
    (x : Made F) × HasRolled loads reads c gs s u v x
    × (count_in (accepted_in x.begun.list) < count_in x.last.state)
    × saves x.loaded x.begun.origin x.begun.setup x.last.state (Err told) t

-- what is told before the coarser file is to be saved
abbrev pub TellsUnrolled : {F S : Type 0} → (F → ℕ → Result Saved FileFault → F → Type 0) →
    (S → ℕ → Result Saved CheckFault → S → Type 0) → ℕ → List (Option ℕ) → F → F → S → S → RollFault → Type 0
TellsUnrolled loads reads c gs s t u v told =
    IsLeft loads s t × (TellsTo loads s t told
    ⊎ ((found : Option Saved) × HasFound loads s t found × TellsWindows reads c gs found u v told))

abbrev pub TellsRoll : {F S : Type 0} → (F → ℕ → Result Saved FileFault → F → Type 0) →
    (F → Origin → Setting → Accepted → Result (Unit {0}) SaveFault → F → Type 0) →
    (S → ℕ → Result Saved CheckFault → S → Type 0) → ℕ → List (Option ℕ) → F → F → S → S → RollFault → Type 0
TellsRoll loads saves reads c gs s t u v (fault.Save told) =
    IsSaveFault told × IsUnsaved loads saves reads c gs s t u v told
TellsRoll loads saves reads c gs s t u v fault.Memory =
    IsLeft loads s t ⊎ IsUnsaved loads saves reads c gs s t u v SaveFault.Memory
TellsRoll loads saves reads c gs s t u v (fault.Output told) = ⊥
TellsRoll loads saves reads c gs s t u v told = TellsUnrolled loads reads c gs s t u v told

-- the only fault after which something may have been written
abbrev pub LeavesLine : RollFault → Type 0
LeavesLine (fault.Output told) = Unit {0}
LeavesLine _ = ⊥

abbrev pub roll_line : ℕ → Accepted → List ℕ
roll_line added b =
    (codes "rolled " ++ decimal added) ++ (codes " batches " ++ decimal (count_in b))
    ++ (codes " total " ++ decimal (total_in b)) ++ 10 ∷ []

-- want of memory is told as such
abbrev pub fault_of_to : FileFault → RollFault
fault_of_to FileFault.Memory = fault.Memory
fault_of_to told = fault.To told

-- a list has room for a new batch of this entry
pub record HasRoomFor (t : Setting) (a : Accepted) (e : Entry) : Type 0 where
  pub new : HasNumber a e.client e.number → ⊥
  pub fits : total_in a + e.total ≤ t.limit
  pub few : count_in a < t.max_batches

abbrev pub UntakesEntry : Setting → Accepted → Entry → Untaken → Type 0
UntakesEntry t a e (untaken.Refused why) = RefusesEntry t a e why
UntakesEntry t a e untaken.Memory = Unit {0}
