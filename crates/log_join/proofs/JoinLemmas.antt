-- A list with the batches of a log behind it.
use Rattle.std.proofs.Common.{◌≡◌, ◌≢◌, ℕ, zero, suc, ◌+◌, ◌-◌, ◌<◌, ◌≤◌, List, [], ◌∷◌, ◌++◌, length, take, drop}
use Rattle.std.proofs.Common.{slice_get}
use Rattle.std.proofs.Common.{◌⊎◌, Some, sym, ap, subst, ◌∙◌, append_assoc, append-nil}
use Rattle.std.proofs.Common.{length-append, length-take, inl, inr, arith}
use Rattle.std.specs.Arc.{arc_value}
use Rattle.std.proofs.lemmas.Bool.{cases_lt}
use Rattle.std.proofs.lemmas.List.{length-map, map-append, drop-map, drop_all, take-append-drop}
use mathlib.Core.List.{IsPrefix}
use Rattle.batch_store.specs.declared.verdict.Entry.{Entry}
use Rattle.batch_store.specs.Setups.{Setting}
use Rattle.std.specs.declared.sync.Arc.{Arc}
use Rattle.std.specs.Prelude.{Result, Ok, Err, OnOk, IfOk, IfErr}
use Rattle.batch_store.specs.Batches.{Submission, entry_of, entries_of, values}
use Rattle.batch_store.proofs.BookLaws.{length-entries_of}
use Rattle.batch_store.specs.Books.{Listing, listing, accepted_in, AreAccepted, HaveDims}
use Rattle.batch_store.specs.Verdicts.{same_pair}
use Rattle.std.specs.List.{IsDistinct}
use Rattle.log_head.specs.declared.head.LogHead.{LogHead}
use Rattle.log_lives.specs.Lives.{log, restored}
use Rattle.log_lives.proofs.Prefixes.{prefix_push}
use Rattle.batch_store.specs.declared.verdict.Verdict.TheVariants.{Fresh}
use Rattle.batch_store.specs.Growth.{AllLieIn, FitsIn, all_widened, widened}
use Rattle.batch_store.specs.Verdicts.{AllFresh, verdict_of}
use Rattle.batch_store.proofs.GrowthLaws.{all_lie_in, entries-widened}
use Rattle.batch_store.proofs.BookLaws.{next_item}
use Rattle.log_join.specs.Joins.{Agrees, DiffersAt, IsBeside, IsLinked, Joins, RefusesLists, StaleAt}
use Rattle.log_join.specs.Joins.{behind_end, known_entries, log_behind}
use Rattle.log_join.specs.declared.fault.JoinFault.{JoinFault}
use Rattle.log_join.specs.declared.fault.JoinFault.TheVariants.{EntryDiffers, Memory, NotFresh}
use Rattle.log_join.proofs.FreshLemmas.{all_fresh_more}
use Rattle.log_join.proofs.PlaceLemmas.{get_before, get_behind, get_taken}

-- ---- lists

pub entries-joined : (v : Listing) (new : List Submission) →
    known_entries (listing v.base v.folded (v.list ++ new)) ≡ known_entries v ++ entries_of new
entries-joined v new = ap (λ (l : List Entry). v.folded ++ l) (map-append entry_of v.list new)
    ∙ sym (append_assoc v.folded (entries_of v.list) (entries_of new))

pub dims_drop : (r c n : ℕ) (list : List Submission) → HaveDims r c list → HaveDims r c (drop n list)
dims_drop r c zero list h = h
dims_drop r c (suc n) [] h = h
dims_drop r c (suc n) (b ∷ bs) h = dims_drop r c n bs h.2

module _ (s : Setting) (v : Listing) (h : LogHead) (bs : List Submission) (list : Listing)
    (beside : IsBeside s (known_entries v) h (entries_of bs)) where
  es : List Entry
  es = known_entries v

  first_long : length (take h.first (known_entries v)) ≡ h.first
  first_long = let a = length-take h.first (known_entries v) in let b = beside.linked.no_gap in omega arith

  restored_same : (new : List Submission) → new ≡ behind_end (known_entries v) h bs →
      list ≡ listing v.base v.folded (v.list ++ all_widened s new) →
      known_entries list ≡ restored (known_entries v) (log_behind (known_entries v) h (entries_of bs))
  restored_same new is list_is =
      ap known_entries list_is ∙ entries-joined v (all_widened s new)
      ∙ ap (λ (l : List Entry). known_entries v ++ l) (entries-widened s new)
      ∙ ap (λ (l : List Submission). known_entries v ++ entries_of l) is
      ∙ ap (λ (l : List Entry). known_entries v ++ l) (sym (drop-map entry_of (length (known_entries v) - h.first) bs))
      ∙ ap (λ (n : ℕ). known_entries v ++ drop (length (known_entries v) - n) (entries_of bs)) (sym first_long)

  same_up : (i : ℕ) → i < length (known_entries v) → i < length (take h.first (known_entries v) ++ entries_of bs) →
      slice_get (known_entries v) i ≡ slice_get (take h.first (known_entries v) ++ entries_of bs) i
  same_up i within logged = elim (cases_lt i h.first) [
    | inl before ↦
        sym (get_taken (known_entries v) h.first i before)
        ∙ sym (get_before (take h.first (known_entries v)) (entries_of bs) i (let e = first_long in omega arith))
    | inr behind ↦
        let e = first_long in
        let total = length-append (take h.first (known_entries v)) (entries_of bs) in
        let at : i ≡ h.first + (i - h.first) = omega arith in
        ap (slice_get (known_entries v)) at
        ∙ beside.same (i - h.first) (omega arith) (omega arith)
        ∙ sym (get_behind (take h.first (known_entries v)) (entries_of bs) i (i - h.first) (omega arith))
  ]

  begins : IsPrefix (take h.first (known_entries v)) (known_entries v)
  begins = subst (λ (l : List Entry). IsPrefix (take h.first (known_entries v)) l)
      (take-append-drop h.first (known_entries v))
      (prefix_push (take h.first (known_entries v)) (drop h.first (known_entries v)))

  pub joins_by : (new : List Submission) → new ≡ behind_end (known_entries v) h bs →
      list ≡ listing v.base v.folded (v.list ++ all_widened s new) →
      AllFresh s.limit s.max_batches (known_entries v) (entries_of new) → AreAccepted s (accepted_in list) →
      Joins s v h bs list
  joins_by new is list_is fresh accepted = record {
    beside = beside;
    taken = record {
      no_gap = let a = first_long in let b = beside.linked.no_gap in omega arith;
      linked = begins;
      same = same_up;
      distinct = subst (IsDistinct same_pair) (restored_same new is list_is) accepted.distinct;
    };
    fresh = subst (AllFresh s.limit s.max_batches (known_entries v))
        (ap entries_of is ∙ sym (drop-map entry_of (length (known_entries v) - h.first) bs)) fresh;
    list_is = list_is ∙ ap (λ (l : List Submission). listing v.base v.folded (v.list ++ all_widened s l)) is;
    restored_is = restored_same new is list_is;
    accepted = accepted;
  }

-- nothing of the log stands behind the end
pub joins_nothing : (s : Setting) (v : Listing) (h : LogHead) (bs : List Submission) →
    IsBeside s (known_entries v) h (entries_of bs) → length bs ≤ length (known_entries v) - h.first →
    AreAccepted s (accepted_in v) → Joins s v h bs v
joins_nothing s v h bs beside short accepted =
    joins_by s v h bs v beside [] (sym (drop_all (length (known_entries v) - h.first) bs short))
    (ap (λ (l : List Submission). listing v.base v.folded l) (sym (append-nil v.list))) tt accepted

-- ---- one batch more

pub next_taken : {X : Type 0} (xs : List X) (i : ℕ) (x : X) → slice_get xs i ≡ Some x →
    take (i + 1) xs ≡ take i xs ++ x ∷ []
next_taken xs i x here = sym (next_item xs i x (sym here))

pub parted_at : {X : Type 0} (xs : List X) (i : ℕ) (x : X) → slice_get xs i ≡ Some x →
    xs ≡ take i xs ++ x ∷ drop (suc i) xs
parted_at [] i x here = absurd cc
parted_at (y ∷ xs) zero x here = let e : y ≡ x = cc here in ap (λ z. z ∷ xs) e
parted_at (y ∷ xs) (suc i) x here = ap (λ l. y ∷ l) (parted_at xs i x here)

module _ (s : Setting) (v old : Listing) (xs : List Submission) (i : ℕ) (b : Submission)
    (told : old ≡ listing v.base v.folded (v.list ++ all_widened s (take i xs))) (here : slice_get xs i ≡ Some b) where
  more_widened : all_widened s (take (i + 1) xs) ≡ all_widened s (take i xs) ++ widened s b ∷ []
  more_widened = ap (all_widened s) (next_taken xs i b here) ∙ map-append (widened s) (take i xs) (b ∷ [])

  pub listed_more : (new : Listing) → new ≡ listing old.base old.folded (old.list ++ widened s b ∷ []) →
      new ≡ listing v.base v.folded (v.list ++ all_widened s (take (i + 1) xs))
  listed_more new is =
      is
      ∙ (λ j. listing (told j).base (told j).folded ((told j).list ++ widened s b ∷ []))
      ∙ ap (λ (l : List Submission). listing v.base v.folded l)
      (append_assoc v.list (all_widened s (take i xs)) (widened s b ∷ [])
      ∙ ap (λ (l : List Submission). v.list ++ l) (sym more_widened))

  old_entries : known_entries old ≡ known_entries v ++ entries_of (take i xs)
  old_entries =
      ap known_entries told ∙ entries-joined v (all_widened s (take i xs))
      ∙ ap (λ (l : List Entry). known_entries v ++ l) (entries-widened s (take i xs))

  more_entries : entries_of (take (i + 1) xs) ≡ entries_of (take i xs) ++ entry_of b ∷ []
  more_entries = ap entries_of (next_taken xs i b here) ∙ map-append entry_of (take i xs) (b ∷ [])

  pub fresh_more : AllFresh s.limit s.max_batches (known_entries v) (entries_of (take i xs)) →
      verdict_of s.limit s.max_batches (known_entries old) (entry_of b) ≡ Fresh →
      AllFresh s.limit s.max_batches (known_entries v) (entries_of (take (i + 1) xs))
  fresh_more all fresh =
      subst (AllFresh s.limit s.max_batches (known_entries v)) (sym more_entries)
      (all_fresh_more s.limit s.max_batches (known_entries v) (entries_of (take i xs)) (entry_of b) all
      (subst (λ (l : List Entry). verdict_of s.limit s.max_batches l (entry_of b) ≡ Fresh) old_entries fresh))

  pub stale_here : AllFresh s.limit s.max_batches (known_entries v) (entries_of (take i xs)) →
      verdict_of s.limit s.max_batches (known_entries old) (entry_of b) ≢ Fresh →
      StaleAt s.limit s.max_batches (known_entries v) (entries_of xs) (length (known_entries old))
  stale_here all stale = record {
    front = entries_of (take i xs);
    entry = entry_of b;
    behind = entries_of (drop (suc i) xs);
    parts = ap entries_of (parted_at xs i b here) ∙ map-append entry_of (take i xs) (b ∷ drop (suc i) xs);
    fresh = all;
    stale = subst (λ (l : List Entry). verdict_of s.limit s.max_batches l (entry_of b) ≢ Fresh) old_entries stale;
    at_is = ap length old_entries ∙ length-append (known_entries v) (entries_of (take i xs));
  }

  pub judged_here : (f : JoinFault) → AllFresh s.limit s.max_batches (known_entries v) (entries_of (take i xs)) →
      (f ≡ Memory) ⊎ ((f ≡ NotFresh (length (known_entries old)))
      × (verdict_of s.limit s.max_batches (known_entries old) (entry_of b) ≢ Fresh)) →
      (f ≡ Memory) ⊎ ((at : ℕ) × (f ≡ NotFresh at) × StaleAt s.limit s.max_batches (known_entries v) (entries_of xs) at)
  judged_here f all (inl memory) = inl memory
  judged_here f all (inr told_so) = inr (length (known_entries old), told_so.0, stale_here all told_so.1)

-- ---- what a join answers

pub refused_by : (s : Setting) (v : Listing) (h : LogHead) (bs new : List Submission) (f : JoinFault) →
    IsBeside s (known_entries v) h (entries_of bs) → new ≡ behind_end (known_entries v) h bs →
    (f ≡ Memory) ⊎ ((at : ℕ) × (f ≡ NotFresh at)
    × StaleAt s.limit s.max_batches (known_entries v) (entries_of new) at) → RefusesLists s v h bs f
refused_by s v h bs new f beside is (inl memory) = subst (RefusesLists s v h bs) (sym memory) beside
refused_by s v h bs new f beside is (inr told_so) =
    subst (RefusesLists s v h bs) (sym told_so.1) (
      beside,
      subst (λ (l : List Entry). StaleAt s.limit s.max_batches (known_entries v) l told_so.0)
          (ap entries_of is ∙ sym (drop-map entry_of (length (known_entries v) - h.first) bs)) told_so.2,
    )

pub differs_by : (s : Setting) (v : Listing) (h : LogHead) (bs : List Submission) (f : JoinFault) →
    IsLinked s (known_entries v) h →
    (at : ℕ) × (f ≡ EntryDiffers at) × DiffersAt h.first (known_entries v) (entries_of bs) at → RefusesLists s v h bs f
differs_by s v h bs f linked told_so = subst (RefusesLists s v h bs) (sym told_so.1) (linked, told_so.2)

-- both have the same where both have a place
pub agrees_by : (es : List Entry) (bs : List Submission) (first shared : ℕ) →
    ((i : ℕ) → i < shared → slice_get es (first + i) ≡ slice_get (entries_of bs) i) → shared ≤ length bs →
    (shared < length bs → first + shared ≡ length es) → Agrees first es (entries_of bs)
agrees_by es bs first shared same logged all i within there = elim (cases_lt i shared) [
  | inl less ↦ same i less
  | inr ge ↦ absurd (let long = length-entries_of bs in let end = all (omega arith) in omega arith)
]

pub new_fit : {Z : Type 0} (s t : Setting) (bs new : List (Arc Submission Z)) (n : ℕ) → FitsIn t s → new ≡ drop n bs →
    HaveDims t.rows t.cols (values bs) → AllLieIn s (values new)
new_fit s t bs new n fits is dims =
    all_lie_in t s (values new) fits
    (subst (λ (l : List Submission). HaveDims t.rows t.cols l) (drop-map arc_value n bs ∙ sym (ap values is))
    (dims_drop t.rows t.cols n (values bs) dims))

-- what stands behind the end of the list
pub new_is : {Z : Type 0} (es : List Entry) (h : LogHead) (bs new : List (Arc Submission Z)) (n : ℕ) → new ≡ drop n bs →
    n ≡ length es - h.first → values new ≡ behind_end es h (values bs)
new_is es h bs new n is place =
    ap values is ∙ sym (drop-map arc_value n bs) ∙ ap (λ (i : ℕ). drop i (values bs)) place

-- ---- results

pub on_ok_map : {T E P Q : Type 0} (r : Result T E) → (P → Q) → OnOk r P → OnOk r Q
on_ok_map (Ok x) f p = f p
on_ok_map (Err e) f p = tt

pub if_ok_all : {T E : Type 0} {A B D : T → Type 0} {C : Type 0} (r : Result T E) →
    ((x : T) → A x → B x → C → D x) → IfOk r A → IfOk r B → OnOk r C → IfOk r D
if_ok_all (Ok x) f a b c = f x a b c
if_ok_all (Err e) f a b c = tt

pub if_err_map : {T E : Type 0} {A B : E → Type 0} (r : Result T E) → ((e : E) → A e → B e) → IfErr r A → IfErr r B
if_err_map (Ok x) f a = tt
if_err_map (Err e) f a = f e a

-- ---- a log beside a list

pub beside_of : {Z : Type 0} (s : Setting) (es : List Entry) (h : LogHead) (bs : List (Arc Submission Z))
    (count shared : ℕ) →
    IsLinked s es h → count ≡ length es → shared ≤ length bs → (shared < length bs → h.first + shared ≡ count) →
    ((i : ℕ) → i < shared → slice_get es (h.first + i) ≡ slice_get (entries_of (values bs)) i) →
    IsBeside s es h (entries_of (values bs))
beside_of s es h bs count shared linked count_is logged all same = record {
  linked = linked;
  same = agrees_by es (values bs) h.first shared same (let a = length-map bs arc_value in omega arith)
      (λ less. let a = length-map bs arc_value in let b = all (omega arith) in omega arith);
}

pub place_of : (count first shared logged n : ℕ) → (shared ≡ logged → ⊥) → shared ≤ logged →
    (shared < logged → first + shared ≡ count) → count ≡ n → shared ≡ n - first
place_of count first shared logged n more within all is = elim (cases_lt shared logged) [
  | inl less ↦ (let a = all less in omega arith)
  | inr ge ↦ absurd (more (omega arith))
]

pub joins_shared : {Z : Type 0} (s : Setting) (v : Listing) (h : LogHead) (bs : List (Arc Submission Z))
    (count shared : ℕ) →
    IsBeside s (known_entries v) h (entries_of (values bs)) → count ≡ length (known_entries v) →
    h.first + shared ≤ count →
    shared ≡ length bs → AreAccepted s (accepted_in v) → Joins s v h (values bs) v
joins_shared s v h bs count shared beside count_is listed whole accepted =
    joins_nothing s v h (values bs) beside (let a = length-map bs arc_value in omega arith) accepted
