-- What a log tells beside a known list.
use Rattle.std.proofs.Common.{◌≡◌, ◌⊎◌, ℕ, zero, suc, ◌+◌, ◌-◌, ◌<◌, ◌≤◌, List, [], ◌∷◌, ◌++◌, length, take, drop}
use Rattle.std.proofs.Common.{slice_get, Some, refl, sym, ap, subst, ◌∙◌, length-append, length-take, arith}
use Rattle.std.proofs.lemmas.List.{length-drop, drop-map}
use Rattle.batch_store.specs.declared.verdict.Entry.{Entry}
use Rattle.batch_store.specs.Setups.{Setting}
use Rattle.batch_store.specs.Batches.{Submission, entry_of, entries_of, values}
use Rattle.batch_store.specs.Books.{Listing}
use Rattle.batch_store.specs.Growth.{all_widened}
use Rattle.batch_store.proofs.BookLaws.{length-entries_of}
use Rattle.batch_store.proofs.GrowthLaws.{entries-widened}
use Rattle.snap_file.specs.Origins.{IsOtherBook, own}
use Rattle.snap_file.specs.declared.origin.Identity.{Identity}
use Rattle.log_head.specs.declared.head.LogHead.{LogHead}
use Rattle.log_join.specs.Joins.{Agrees, Joins, behind_end, known_entries}
use Rattle.log_join.proofs.JoinLemmas.{entries-joined}
use Rattle.log_start.specs.Found.{IsFound, ReadsAs}
use Rattle.log_start.specs.Records.{IsLogAs, joined, log_in}
use Rattle.log_start.specs.Starts.{IsJoined}
use Rattle.log_start.specs.declared.owner.LogOwner.{LogOwner}
use Rattle.log_start.specs.declared.read.FoundLog.{FoundLog}

-- where both have a place, both have the same: so the one list goes on as the other does
same_front : {X : Type 0} (xs ys : List X) →
    ((i : ℕ) → i < length xs → i < length ys → slice_get xs i ≡ slice_get ys i) → length xs ≤ length ys →
    xs ++ drop (length xs) ys ≡ ys
same_front [] ys same short = refl
same_front (x ∷ xs) [] same short = absurd (omega (arith, short))
same_front {X} (x ∷ xs) (y ∷ ys) same short =
    let head : Some x ≡ Some y = same 0 (omega arith) (omega arith) in
    let e : x ≡ y = cc head in
    let tail = same_front xs ys (λ i lt lu. same (suc i) (omega (arith, lt)) (omega (arith, lu))) (omega (arith, short)) in
    λ i. e i ∷ tail i

told_from : (first : ℕ) (es entries : List Entry) → Agrees first es entries → first ≤ length es →
    length es ≤ first + length entries → es ++ drop (length es - first) entries ≡ take first es ++ entries
told_from zero es entries same no_gap short =
    ap (λ (n : ℕ). es ++ drop n entries) {x = length es - 0} {y = length es} (omega arith)
    ∙ same_front es entries
    (λ i lt lu. ap (slice_get es) {x = i} {y = 0 + i} (omega arith) ∙ same i (omega (arith, lt)) lu)
    (omega (arith, short))
told_from (suc first) [] entries same no_gap short = absurd (omega (arith, no_gap))
told_from (suc first) (e ∷ es) entries same no_gap short =
    let rest = told_from first es entries
    (λ i lt lu. ap (slice_get (e ∷ es)) {x = suc (first + i)} {y = suc first + i} (omega arith)
    ∙ same i (omega (arith, lt)) lu) (omega (arith, no_gap)) (omega (arith, short)) in
    let n : length (e ∷ es) - suc first ≡ length es - first = omega arith in
    ap (λ (k : ℕ). e ∷ (es ++ drop k entries)) n ∙ ap (λ (l : List Entry). e ∷ l) rest

module _ (s : Setting) (v list : Listing) (head : LogHead) (bs : List Submission) (joins : Joins s v head bs list) where
  es : List Entry
  es = known_entries v

  entries_are : known_entries list ≡ known_entries v ++ drop (length (known_entries v) - head.first) (entries_of bs)
  entries_are =
      ap known_entries joins.list_is
      ∙ entries-joined v (all_widened s (behind_end (known_entries v) head bs))
      ∙ ap (λ (l : List Entry). known_entries v ++ l) (entries-widened s (behind_end (known_entries v) head bs))
      ∙ ap (λ (l : List Entry). known_entries v ++ l)
      (sym (drop-map entry_of (length (known_entries v) - head.first) bs))

  linked : head.first ≤ length (known_entries v)
  linked = let b = joins.beside in let l = b.linked in l.no_gap

  -- a log that doesn't end before the list tells all of it
  pub all_told : length (known_entries list) ≤ head.first + length bs →
      known_entries list ≡ take head.first (known_entries v) ++ entries_of bs
  all_told short =
      entries_are
      ∙ told_from head.first (known_entries v) (entries_of bs) (let b = joins.beside in b.same) linked (omega (
        arith,
        short,
        ap (λ (l : List Entry). length l) entries_are,
        length-append (known_entries v) (drop (length (known_entries v) - head.first) (entries_of bs)),
        length-entries_of bs,
      ))

  pub told_log : (bytes : List ℕ) (lists : List (List Submission)) → ReadsAs bytes head lists → bs ≡ joined lists →
      length (known_entries list) ≤ head.first + length bs →
      IsLogAs (log_in (take 4096 bytes) head.first lists) head.setup head.identity (known_entries list)
  told_log bytes lists read is short =
      let l = (let b = joins.beside in b.linked) in
      record {
        log = record {
          head = head;
          before = take head.first (known_entries v);
          lists = lists;
          has_head = read.has_head;
          first_is = refl;
          before_is = omega (arith, length-take head.first (known_entries v), linked);
          total_is = l.total;
          link_is = l.link;
          blocks_are = refl;
          entries_are = all_told short
              ∙ ap (λ (b : List Submission). take head.first (known_entries v) ++ entries_of b) is;
        };
        setup = refl;
        identity = refl;
      }

pub is_joined : (s : Setting) (o : LogOwner) (v list : Listing) (i : Identity) (t : Setting) (bytes : List ℕ)
    (log : FoundLog) →
    IsFound bytes log → (IsOtherBook o.known log.head.identity → ⊥) →
    Joins s v log.head (values log.batches.items) list →
    ((i ≡ log.head.identity) × (t ≡ log.head.setup)) ⊎ ((i ≡ own o.known log.head.identity o.drawn) × (t ≡ s)) →
    IsJoined s o v bytes list i t
is_joined s o v list i t bytes log found book joins whose = record {
  head = log.head;
  lists = found.lists;
  read = found.read;
  book = book;
  joins = subst (λ (b : List Submission). Joins s v log.head b list) found.batches_are joins;
  whose = whose;
}

pub found_log : (s : Setting) (v list : Listing) (bytes : List ℕ) (log : FoundLog) (found : IsFound bytes log) →
    Joins s v log.head (values log.batches.items) list → length (known_entries list) ≤ log.end.next →
    IsLogAs (log_in (take 4096 bytes) log.head.first found.lists) log.head.setup log.head.identity (known_entries list)
found_log s v list bytes log found joins short =
    told_log s v list log.head (values log.batches.items) joins bytes found.lists found.read found.batches_are
    (omega (arith, short, found.next_is, ap (λ (b : List Submission). length b) found.batches_are))

pub begins_within : (s : Setting) (v list : Listing) (log : FoundLog) →
    Joins s v log.head (values log.batches.items) list → log.head.first ≤ length (known_entries v)
begins_within s v list log joins = linked s v list log.head (values log.batches.items) joins

-- one that ends before it adds nothing
pub nothing_more : (s : Setting) (v list : Listing) (bytes : List ℕ) (log : FoundLog) → IsFound bytes log →
    Joins s v log.head (values log.batches.items) list → log.end.next < length (known_entries list) →
    length (known_entries list) ≡ length (known_entries v)
nothing_more s v list bytes log found joins short =
    let bs = values log.batches.items in
    omega (
      arith,
      short,
      found.next_is,
      ap (λ (b : List Submission). length b) found.batches_are,
      ap (λ (l : List Entry). length l) (entries_are s v list log.head bs joins),
      length-append (known_entries v) (drop (length (known_entries v) - log.head.first) (entries_of bs)),
      length-drop (length (known_entries v) - log.head.first) (entries_of bs),
      length-entries_of bs,
      linked s v list log.head bs joins,
    )
