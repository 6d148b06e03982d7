-- What a merge has from a place on, where its fronts pass over cells before the place.
use Rattle.std.proofs.Common.{◌≡◌, ℕ, ◌+◌, ◌≤◌, ◌<◌, Bool, true, false, not, cond, T, List, [], ◌∷◌, length}
use Rattle.std.proofs.Common.{Option, Some, None, sym, ◌∙◌, ap, subst, refl, arith, Ordering}
use Rattle.std.specs.Prelude.{MatchOption, IfSome}
use Rattle.std.specs.Ordering.{eq_by_cmp}
use Rattle.std.specs.List.{AllByRecursion}
use Rattle.std.specs.BinaryHeap.{IsHeap, IsUpperBound, PopsGreatest}
use Rattle.std.specs.List.Sorted.{IsPermutation}
use Rattle.std.proofs.lemmas.List.Sorted.{IsPermutation-refl}
use Rattle.std.specs.FinMap.{get, entries, entries_sorted, from_sorted, is_sorted, get-entries, get-from_sorted}
use Rattle.std.specs.FinMap.{entries-from_sorted}
use Rattle.std.specs.FinMap.Entries.{find-where_key, is_sorted-where_key}
use Rattle.hyper_matrix.specs.Counts.{Place, place_cmp, Counts, built, plus, count_sum, total}
use Rattle.hyper_matrix.specs.Cells.{entry_of, place_of}
use Rattle.hyper_matrix.specs.Places.{Less}
use Rattle.hyper_matrix.specs.Search.{is_before, cells_from}
use Rattle.hyper_matrix.proofs.CountLaws.{exact_places, same_counts, get-ewise_add, get-built, gathered, T_first}
use Rattle.hyper_matrix.proofs.CountLaws.{T_second}
use Rattle.hyper_matrix.proofs.PlaceOrderLaws.{all_map, to_all}
use Rattle.hyper_matrix.proofs.SkipLaws.{AllFrom, all_from, still_behind, sorted_from, fewer_from}
use Rattle.hyper_matrix.proofs.SearchLaws.{before_until, before_other}
use Rattle.merged_cells.specs.declared.front.Front.{Front}
use Rattle.merged_cells.specs.Fronts.{front_cmp, left_of, fronts_of, fronts_sum, cells_left, AreRising, NoneBefore}
use Rattle.merged_cells.specs.Fronts.{AreFronts}
use Rattle.merged_cells.specs.Fronts.{IsFrontBefore, Skips}
use Rattle.merged_cells.proofs.OrderLaws.{all_permuted, not_before}
use Rattle.merged_cells.proofs.FrontLaws.{sum_permuted, left_permuted, no_items}
use Rattle.merged_cells.proofs.MergeLaws.{places_of_fronts, no_entries}

alike : (p q x : Place) → place_cmp q x ≡ Ordering.Equal → not (is_before x p) ≡ not (is_before q p)
alike p q x same = ap (λ (r : Place). not (is_before r p)) (sym (exact_places q x same))

abbrev kept_from : Place → Counts → List (Place × ℕ)
kept_from p m = cells_from p (entries m)

kept_sorted : (p : Place) (m : Counts) → T (is_sorted place_cmp (kept_from p m))
kept_sorted p m = is_sorted-where_key place_cmp (λ q. not (is_before q p)) (entries m) (entries_sorted m)

abbrev kept : Place → Counts → Counts
kept p m = from_sorted (kept_from p m)

get-kept : (p : Place) (m : Counts) (q : Place) → get (kept p m) q ≡ cond (not (is_before q p)) (get m q) None
get-kept p m q = get-from_sorted place_cmp (kept_from p m) q (kept_sorted p m)
    ∙ find-where_key place_cmp (λ x. not (is_before x p)) q (alike p q) (entries m)
    ∙ ap (λ (o : Option ℕ). cond (not (is_before q p)) o None) (sym (get-entries m q))

-- what two maps have from a place on is the same where their counts are
pub same_from : (p : Place) (a b : Counts) → ((q : Place) → is_before q p ≡ false → get a q ≡ get b q) →
    cells_from p (entries a) ≡ cells_from p (entries b)
same_from p a b same =
    sym (entries-from_sorted place_cmp (kept_from p a) (kept_sorted p a))
    ∙ ap entries (same_counts (kept p a) (kept p b)
    (λ q. get-kept p a q ∙ each q (is_before q p) refl ∙ sym (get-kept p b q)))
    ∙ entries-from_sorted place_cmp (kept_from p b) (kept_sorted p b)
  where
    each : (q : Place) (t : Bool) → is_before q p ≡ t →
        cond (not (is_before q p)) (get a q) None ≡ cond (not (is_before q p)) (get b q) None
    each q true e = ap (λ t. cond (not t) (get a q) None) e ∙ sym (ap (λ t. cond (not t) (get b q) None) e)
    each q false e = ap (λ (o : Option ℕ). cond (not (is_before q p)) o None) (same q e)

-- cells before a place add nothing to what stands at a place from there on
pub gathered_from : (p q : Place) (es : List (Place × ℕ)) → is_before q p ≡ false →
    gathered q (cells_from p es) ≡ gathered q es
gathered_from p q [] behind = refl
gathered_from p q (x ∷ es) behind = elim (is_before x.0 p) as
    (λ t. is_before x.0 p ≡ t → gathered q (cells_from p (x ∷ es)) ≡ gathered q (x ∷ es)) [
      | true ↦ λ b.
          ap (λ t. gathered q (cond (not t) (x ∷ cells_from p es) (cells_from p es))) b ∙ gathered_from p q es behind
          ∙ sym (ap (λ t. plus (cond t (Some x.1) None) (gathered q es))
          (before_other x.0 q (before_until x.0 p q b behind)))
      | false ↦ λ b.
          ap (λ t. gathered q (cond (not t) (x ∷ cells_from p es) (cells_from p es))) b
          ∙ ap (plus (cond (eq_by_cmp place_cmp q x.0) (Some x.1) None)) (gathered_from p q es behind)
    ] refl

-- the first front in the sum of all
sum_at : (f : Front) (fs : List Front) (q : Place) →
    get (fronts_sum (f ∷ fs)) q ≡ plus (gathered q (left_of f)) (get (fronts_sum fs) q)
sum_at f fs q = get-ewise_add (built (left_of f)) (fronts_sum fs) q ∙
    ap (λ o. plus o (get (fronts_sum fs) q)) (get-built (left_of f) q)

past_first : (p : Place) (f : Front) → is_before (place_of f.cell) p ≡ true →
    cells_from p (left_of f) ≡ cells_from p f.rest
past_first p f before = ap (λ t. cond (not t) (entry_of f.cell ∷ cells_from p f.rest) (cells_from p f.rest)) before

skipped : (p : Place) (f : Front) (fs hs : List Front) (next : Option Front) (gs : List Front) → AreFronts (Some f) fs →
    ((q : Place) → is_before q p ≡ false → get (fronts_sum hs) q ≡ get (fronts_sum (f ∷ fs)) q) → AreRising hs →
    cells_left hs < cells_left (f ∷ fs) → IsPermutation hs (fronts_of next gs) → IsHeap front_cmp gs →
    MatchOption next (gs ≡ []) (λ g. NoneBefore (place_of g.cell) gs) → Skips p (Some f) fs next gs
skipped p f fs hs next gs kept sum rise count same heap least = record {
  kept = record {
    heap = heap;
    rise = all_permuted (λ g. T (is_sorted place_cmp (left_of g))) hs (fronts_of next gs) same rise;
    least = least;
  };
  same = same_from p (fronts_sum (fronts_of next gs)) (fronts_sum (f ∷ fs))
      (λ q behind. ap (λ (m : Counts). get m q) (sum_permuted hs (fronts_of next gs) same) ∙ sum q behind);
  fewer = omega (arith, count, left_permuted hs (fronts_of next gs) same);
}

-- The first front has gone on to g, and changes places with another or doesn't.
pub skipped_on : (p : Place) (f g h : Front) (fs gs : List Front) → AreFronts (Some f) fs →
    is_before (place_of f.cell) p ≡ true → cells_from p f.rest ≡ left_of g →
    IsPermutation (g ∷ fs) (h ∷ gs) → IsHeap front_cmp gs → NoneBefore (place_of h.cell) gs →
    Skips p (Some f) fs (Some h) gs
skipped_on p f g h fs gs kept before is same heap least =
    skipped p f fs (g ∷ fs) (Some h) gs kept
    (λ q behind. sum_at g fs q ∙ ap (λ o. plus o (get (fronts_sum fs) q))
    (ap (gathered q) (sym is ∙ sym (past_first p f before)) ∙ gathered_from p q (left_of f) behind)
    ∙ sym (sum_at f fs q)) (
      subst (λ (es : List (Place × ℕ)). T (is_sorted place_cmp es)) is
          (sorted_from p f.rest (T_second _ _ kept.rise.0)),
      kept.rise.1,
    )
    (omega (arith, ap length is, fewer_from p f.rest)) same heap least

-- The first front is at its end, and the next is the least of the others, if there is any.
pub skipped_all : (p : Place) (f : Front) (fs : List Front) (next : Option Front) (gs : List Front) →
    AreFronts (Some f) fs → is_before (place_of f.cell) p ≡ true → cells_from p f.rest ≡ [] →
    IfSome next (λ x. IsPermutation fs (x ∷ gs)) → IfSome next (λ x. PopsGreatest front_cmp fs x gs) →
    IfSome next (λ x. IsHeap front_cmp fs → IsUpperBound front_cmp x gs) → (next ≡ None → length fs ≡ 0) →
    (next ≡ None → gs ≡ fs) → Skips p (Some f) fs next gs
skipped_all p f fs next gs kept before is popped order below none same =
    step next popped order below none same
  where
    sum : (q : Place) → is_before q p ≡ false → get (fronts_sum fs) q ≡ get (fronts_sum (f ∷ fs)) q
    sum q behind = sym (sum_at f fs q ∙ ap (λ o. plus o (get (fronts_sum fs) q))
        (sym (gathered_from p q (left_of f) behind) ∙ ap (gathered q) (past_first p f before ∙ is)))

    step : (next : Option Front) → IfSome next (λ x. IsPermutation fs (x ∷ gs)) →
        IfSome next (λ x. PopsGreatest front_cmp fs x gs) →
        IfSome next (λ x. IsHeap front_cmp fs → IsUpperBound front_cmp x gs) → (next ≡ None → length fs ≡ 0) →
        (next ≡ None → gs ≡ fs) → Skips p (Some f) fs next gs
    step None popped order below none same =
        let as_before : gs ≡ fs = same refl in
        skipped p f fs fs None gs kept sum kept.rise.1 (omega arith)
        (subst (IsPermutation fs) (sym as_before) (IsPermutation-refl fs))
        (subst (IsHeap front_cmp) (sym as_before) kept.heap) (as_before ∙ no_items fs (none refl))
    step (Some x) popped order below none same =
        skipped p f fs fs (Some x) gs kept sum kept.rise.1 (omega arith) popped (order kept.heap).0 (below kept.heap)

-- no front is before a place: so no cell is
front_from : (p : Place) (f : Front) → T (is_sorted place_cmp (left_of f)) → is_before (place_of f.cell) p ≡ false →
    AllFrom p (left_of f)
front_from p f sorted behind = (
  behind,
  all_map (Less (place_of f.cell)) (λ r. is_before r p ≡ false)
      (λ r less. still_behind (place_of f.cell) r p less behind) f.rest
      (to_all (place_of f.cell) f.rest (T_first _ _ sorted)),
)

fronts_from : (p r : Place) (fs : List Front) → AreRising fs → NoneBefore r fs → is_before r p ≡ false →
    AllByRecursion (λ f. AllFrom p (left_of f)) fs
fronts_from p r [] rise least behind = tt
fronts_from p r (f ∷ fs) rise least behind = (
  front_from p f rise.0 (not_before p r (place_of f.cell) behind least.0),
  fronts_from p r fs rise.1 least.1 behind,
)

-- nothing more is to be passed over
pub all_skipped : (p : Place) (first : Option Front) (fs : List Front) → AreFronts first fs →
    (IsFrontBefore p first → ⊥) →
    entries (fronts_sum (fronts_of first fs)) ≡ cells_from p (entries (fronts_sum (fronts_of first fs)))
all_skipped p None fs kept stop =
    let none : entries (fronts_sum fs) ≡ [] = ap (λ gs. entries (fronts_sum gs)) kept.least ∙ no_entries in
    none ∙ sym (ap (cells_from p) none)
all_skipped p (Some f) fs kept stop =
    let behind : is_before (place_of f.cell) p ≡ false = isnt (is_before (place_of f.cell) p) stop in
    sym (all_from p (entries (fronts_sum (f ∷ fs))) (places_of_fronts (λ r. is_before r p ≡ false) (f ∷ fs) (
      front_from p f kept.rise.0 behind,
      fronts_from p (place_of f.cell) fs kept.rise.1 kept.least behind,
    )))
  where
    isnt : (t : Bool) → (t ≡ true → ⊥) → t ≡ false
    isnt true is_not = absurd (is_not refl)
    isnt false is_not = refl

-- the total of what is left is no more
total_from : (p : Place) (es : List (Place × ℕ)) → count_sum (cells_from p es) ≤ count_sum es
total_from p [] = omega arith
total_from p (x ∷ es) = elim (is_before x.0 p) as
    (λ t. count_sum (cond (not t) (x ∷ cells_from p es) (cells_from p es)) ≤ x.1 + count_sum es) [
      | true ↦ omega (arith, total_from p es)
      | false ↦ omega (arith, total_from p es)
    ]

pub total_skipped : (p : Place) (x y : Counts) → entries y ≡ cells_from p (entries x) → total y ≤ total x
unfolding total
total_skipped p x y is = omega (arith, ap count_sum is, total_from p (entries x))
