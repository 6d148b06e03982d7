-- What a snapshot keeps, as the reader meets it field by field, and as a book keeps it.
use Rattle.std.proofs.Common.{◌≡◌, ℕ, zero, suc, ◌+◌, ◌<◌, ◌≤◌, ◌^◌, Bool, true, false, ◌&&◌, ◌||◌, List, [], ◌∷◌, ◌++◌}
use Rattle.std.proofs.Common.{length, get_or, refl, sym, ap, subst, ◌∙◌, arith, append_assoc, length-append, append-nil}
use Rattle.std.specs.Prelude.{◌==◌}
use Rattle.std.specs.FinMap.{entries, len}
use Rattle.std.specs.List.{AllByRecursion, IsDistinct}
use Rattle.std.proofs.lemmas.Bool.{or_from, or_parts}
use Rattle.cells.specs.Bounds.{IsDimension}
use Rattle.hyper_matrix.specs.Shared.{LiesWithin}
use Rattle.batch_store.proofs.BookLaws.{length-entries_of}
use Rattle.batch_store.proofs.VerdictLaws.{total_of-append}
use Rattle.layer_cascade.specs.Cuts.{AreCuts}
use Rattle.batch_store.specs.declared.verdict.Entry.{Entry}
use Rattle.batch_store.specs.Setups.{Setting, IsSetting}
use Rattle.batch_store.specs.Batches.{Submission, entries_of}
use Rattle.batch_store.specs.Accepted.{Accepted, entries_in, count_in, total_in, IsBase}
use Rattle.batch_store.specs.Verdicts.{same_pair, total_of_entries}
use Rattle.batch_store.specs.Books.{list_total, HaveDims, AreAccepted}
use Rattle.snap_file.specs.Spelling.{stands_in, IsBatch, IsEntry, IsKept}

-- the first is at least `least`, each further one above the one before, and none above 2^40
abbrev pub CutsFrom : ℕ → List ℕ → Type 0
CutsFrom least [] = Unit {0}
CutsFrom least (cut ∷ cuts) = (least ≤ cut) × (cut ≤ 2 ^ 40) × CutsFrom (cut + 1) cuts

pub record IsSetup (s : Setting) : Type 0 where
  pub rows : IsDimension s.rows
  pub cols : IsDimension s.cols
  pub few_cuts : length s.cuts ≤ 7
  pub cuts : CutsFrom 1 s.cuts
  pub shards : (1 ≤ s.shards) × (s.shards ≤ 64)
  pub limit : (1 ≤ s.limit) × (s.limit < 2 ^ 64)
  pub batches : (1 ≤ s.max_batches) × (s.max_batches ≤ 2 ^ 30)

-- no pair of client and number stands twice, and none of them among those before
abbrev pub AreNew : List Entry → List Entry → Type 0
AreNew before [] = Unit {0}
AreNew before (e ∷ es) = (stands_in e.client e.number before ≡ false) × AreNew (before ++ e ∷ []) es

pub record IsReadable (s : Setting) (a : Accepted) : Type 0 where
  pub setup : IsSetup s
  pub few : length a.folded + length a.list ≤ s.max_batches
  pub fits : total_of_entries a.folded + list_total a.list ≤ s.limit
  pub each : AllByRecursion (IsBatch s.rows s.cols) a.list
  pub folded : AllByRecursion IsEntry a.folded
  pub distinct : AreNew [] a.folded
  pub behind : AreNew a.folded (entries_of a.list)
  pub few_cells : len a.base < 2 ^ 64
  pub within : AllByRecursion (LiesWithin s.rows s.cols) (entries a.base)
  pub based : IsBase a.base a.folded

-- ---- cuts

cuts_from : (least : ℕ) (cuts : List ℕ) → (0 < length cuts → least ≤ get_or cuts 0 0) →
    ((i : ℕ) → i < length cuts → get_or cuts i 0 ≤ 2 ^ 40) →
    ((i : ℕ) → i + 1 < length cuts → get_or cuts i 0 < get_or cuts (i + 1) 0) → CutsFrom least cuts
cuts_from least [] first most rising = tt
cuts_from least (cut ∷ cuts) first most rising = (
  first (omega arith),
  most 0 (omega arith),
  cuts_from (cut + 1) cuts (λ some. let h = rising 0 (omega arith) in omega arith)
      (λ i h. most (suc i) (omega arith))
      (λ i h. let e : suc i + 1 ≡ suc (i + 1) = omega arith in
      subst (λ (n : ℕ). get_or cuts i 0 < get_or (cut ∷ cuts) n 0) e (rising (suc i) (omega arith))),
)

pub cuts_of : (cuts : List ℕ) → AreCuts cuts → CutsFrom 1 cuts
cuts_of cuts h = cuts_from 1 cuts (λ some. (h.range 0 some).0) (λ i lt. (h.range i lt).1) h.rising

-- every cut is at least `least`
cut_range : (least : ℕ) (cuts : List ℕ) → CutsFrom least cuts → (i : ℕ) → i < length cuts →
    (least ≤ get_or cuts i 0) × (get_or cuts i 0 ≤ 2 ^ 40)
cut_range least [] h i lt = absurd (omega arith)
cut_range least (cut ∷ cuts) h zero lt = (h.0, h.1)
cut_range least (cut ∷ cuts) h (suc i) lt = let r = cut_range (cut + 1) cuts h.2 i (omega arith) in let a = h.0 in
    let b = r.0 in (omega arith, r.1)

cut_rising : (least : ℕ) (cuts : List ℕ) → CutsFrom least cuts → (i : ℕ) → i + 1 < length cuts →
    get_or cuts i 0 < get_or cuts (i + 1) 0
cut_rising least [] h i lt = absurd (omega arith)
cut_rising least (cut ∷ cuts) h zero lt = let r = (cut_range (cut + 1) cuts h.2 0 (omega arith)).0 in omega arith
cut_rising least (cut ∷ cuts) h (suc i) lt =
    let e : suc (i + 1) ≡ suc i + 1 = omega arith in subst (λ (n : ℕ). get_or cuts i 0 < get_or (cut ∷ cuts) n 0) e
    (cut_rising (cut + 1) cuts h.2 i (omega arith))

pub are_cuts : (cuts : List ℕ) → length cuts ≤ 7 → CutsFrom 1 cuts → AreCuts cuts
are_cuts cuts few h = record { few = few; range = cut_range 1 cuts h; rising = cut_rising 1 cuts h }

pub setup_of : (s : Setting) → IsSetting s → IsSetup s
setup_of s h = record {
  rows = h.dims.0;
  cols = h.dims.1;
  few_cuts = h.cuts.few;
  cuts = cuts_of s.cuts h.cuts;
  shards = h.shards;
  limit = (h.limit, h.fits);
  batches = h.batches;
}

pub setting_of : (s : Setting) → IsSetup s → IsSetting s
setting_of s h = record {
  dims = (h.rows, h.cols);
  cuts = are_cuts s.cuts h.few_cuts h.cuts;
  shards = h.shards;
  limit = h.limit.0;
  fits = h.limit.1;
  batches = h.batches;
}

-- ---- pairs

-- no entry of the list has the pair of one before it
abbrev Apart : Entry → List Entry → Type 0
Apart e es = AllByRecursion (λ (x : Entry). same_pair e x ≡ false) es

pub stands-append : (c n : ℕ) (xs ys : List Entry) → stands_in c n (xs ++ ys) ≡ (stands_in c n xs || stands_in c n ys)
stands-append c n [] ys = refl
stands-append c n (x ∷ xs) ys = ap (λ (t : Bool). ((x.client == c) && (x.number == n)) || t) (stands-append c n xs ys) ∙
    sym (joined ((x.client == c) && (x.number == n)) (stands_in c n xs) (stands_in c n ys))
  where
    joined : (a b d : Bool) → ((a || b) || d) ≡ (a || (b || d))
    joined true b d = refl
    joined false b d = refl

pub stands_more : (c n : ℕ) (es : List Entry) (e : Entry) →
    stands_in c n (es ++ e ∷ []) ≡ (stands_in c n es || ((e.client == c) && (e.number == n)))
stands_more c n es e = stands-append c n es (e ∷ []) ∙ ap (λ (t : Bool). stands_in c n es || t)
    (last ((e.client == c) && (e.number == n)))
  where
    last : (a : Bool) → (a || false) ≡ a
    last true = refl
    last false = refl

-- the entries are new behind those before, and distinct: said from the front and from the back
new_behind : (before es : List Entry) → AreNew before es →
    AllByRecursion (λ (e : Entry). stands_in e.client e.number before ≡ false) es
new_behind before [] h = tt
new_behind before (e ∷ es) h = (h.0, weaker es (new_behind (before ++ e ∷ []) es h.1))
  where
    weaker : (xs : List Entry) → AllByRecursion (λ (x : Entry). stands_in x.client x.number
        (before ++ e ∷ []) ≡ false) xs → AllByRecursion (λ (x : Entry). stands_in x.client x.number before ≡
        false) xs
    weaker [] h = tt
    weaker (x ∷ xs) h = (
      (or_parts (stands_in x.client x.number before) _
          (sym (stands_more x.client x.number before e) ∙ h.0)).0,
      weaker xs h.1,
    )

apart_behind : (before : List Entry) (e : Entry) (es : List Entry) →
    AllByRecursion (λ (x : Entry). stands_in x.client x.number (before ++ e ∷ []) ≡ false) es → Apart e es
apart_behind before e [] h = tt
apart_behind before e (x ∷ xs) h = (
  (or_parts (stands_in x.client x.number before) _
      (sym (stands_more x.client x.number before e) ∙ h.0)).1,
  apart_behind before e xs h.1,
)

pub distinct_of : (before es : List Entry) → AreNew before es → IsDistinct same_pair es
unfolding IsDistinct
distinct_of before [] h = tt
distinct_of before (e ∷ es) h = (
  apart_behind before e es (new_behind (before ++ e ∷ []) es h.1),
  distinct_of (before ++ e ∷ []) es h.1,
)

new_more : (before : List Entry) (e : Entry) (es : List Entry) →
    AllByRecursion (λ (x : Entry). stands_in x.client x.number before ≡ false) es → Apart e es
    → AllByRecursion (λ (x : Entry). stands_in x.client x.number (before ++ e ∷ []) ≡ false) es
new_more before e [] h k = tt
new_more before e (x ∷ xs) h k = (
  stands_more x.client x.number before e ∙
      or_from (stands_in x.client x.number before) _ h.0 k.0,
  new_more before e xs h.1 k.1,
)

new_of : (before es : List Entry) → IsDistinct same_pair es →
    AllByRecursion (λ (x : Entry). stands_in x.client x.number before ≡ false) es → AreNew before es
unfolding IsDistinct
new_of before [] d h = tt
new_of before (e ∷ es) d h = (h.0, new_of (before ++ e ∷ []) es d.1 (new_more before e es h.1 d.0))

nothing_before : (es : List Entry) → AllByRecursion (λ (x : Entry). stands_in x.client x.number [] ≡
    false) es
nothing_before [] = tt
nothing_before (x ∷ xs) = (refl, nothing_before xs)

-- new entries in two parts, the second behind the first
new_parts : (before xs ys : List Entry) → AreNew before (xs ++ ys) → AreNew before xs × AreNew (before ++ xs) ys
new_parts before [] ys h = (tt, subst (λ (l : List Entry). AreNew l ys) (sym (append-nil before)) h)
new_parts before (x ∷ xs) ys h =
    let r = new_parts (before ++ x ∷ []) xs ys h.1 in
    ((h.0, r.0), subst (λ (l : List Entry). AreNew l ys) (append_assoc before (x ∷ []) xs) r.1)

new_joined : (before xs ys : List Entry) → AreNew before xs → AreNew (before ++ xs) ys → AreNew before (xs ++ ys)
new_joined before [] ys h k = subst (λ (l : List Entry). AreNew l ys) (append-nil before) k
new_joined before (x ∷ xs) ys h k = (
  h.0,
  new_joined (before ++ x ∷ []) xs ys h.1
      (subst (λ (l : List Entry). AreNew l ys) (sym (append_assoc before (x ∷ []) xs)) k),
)

-- ---- the whole

dims_of : (r c : ℕ) (list : List Submission) → AllByRecursion (IsBatch r c) list → HaveDims r c list
dims_of r c [] h = tt
dims_of r c (b ∷ bs) h = (h.0.rows_are, h.0.cols_are, dims_of r c bs h.1)

pub count_is : (a : Accepted) → count_in a ≡ length a.folded + length a.list
count_is a = length-append a.folded (entries_of a.list) ∙
    ap (λ (n : ℕ). length a.folded + n) (length-entries_of a.list)

pub total_parts : (a : Accepted) → total_in a ≡ total_of_entries a.folded + list_total a.list
total_parts a = total_of-append a.folded (entries_of a.list)

pub few_batches : (s : Setting) (a : Accepted) → AreAccepted s a → length a.list ≤ 2 ^ 30
few_batches s a h = omega (arith, h.few, count_is a, h.sound.batches.1)

pub readable_of : (s : Setting) (a : Accepted) → IsKept s a → IsReadable s a
readable_of s a h =
    let new = new_parts [] a.folded (entries_of a.list)
    (new_of [] (entries_in a) h.accepted.distinct (nothing_before (entries_in a))) in
    record {
      setup = setup_of s h.accepted.sound;
      few = omega (arith, h.accepted.few, count_is a);
      fits = omega (arith, h.accepted.within, total_parts a);
      each = h.each;
      folded = h.folded;
      distinct = new.0;
      behind = new.1;
      few_cells = h.few;
      within = h.within;
      based = h.accepted.based;
    }

pub kept_of : (s : Setting) (a : Accepted) → IsReadable s a → IsKept s a
kept_of s a h = record {
  accepted = record {
    sound = setting_of s h.setup;
    distinct = distinct_of [] (entries_in a) (new_joined [] a.folded (entries_of a.list) h.distinct h.behind);
    dims = dims_of s.rows s.cols a.list h.each;
    few = omega (arith, h.few, count_is a);
    within = omega (arith, h.fits, total_parts a);
    based = h.based;
  };
  each = h.each;
  folded = h.folded;
  few = h.few_cells;
  within = h.within;
}
