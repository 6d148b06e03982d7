-- What is left of a merge, as the sum of its fronts: its first entry, and what is added before it begins.
use Rattle.std.proofs.Common.{◌≡◌, ℕ, ◌+◌, ◌≤◌, Bool, true, false, cond, T, List, [], ◌∷◌, length, Option, Some, None}
use Rattle.std.proofs.Common.{sym, ◌∙◌, ap, subst, refl, inl, inr, arith}
use Rattle.std.specs.Prelude.{IfSome}
use Rattle.std.specs.Ordering.{is_lt, eq_by_cmp}
use Rattle.std.specs.BinaryHeap.{IsHeap, IsUpperBound, PopsGreatest}
use Rattle.std.specs.List.{AllByRecursion}
use Rattle.std.specs.List.Sorted.{IsPermutation}
use Rattle.std.specs.Iterator.{YieldsFirstBy}
use Rattle.std.specs.FinMap.{empty, entries, entries_sorted, from_entries, get-from_entries, get-entries, is_sorted}
use Rattle.std.specs.FinMap.{len-entries, len-empty, empty_of_len}
use Rattle.std.proofs.lemmas.Bool.{cases_order}
use Rattle.cells.specs.declared.cell.Cell.{Cell}
use Rattle.cells.proofs.OrderLaws.{less_place}
use Rattle.hyper_matrix.specs.Counts.{Place, place_cmp, Counts, ewise_add, built, total, plus, count_sum}
use Rattle.hyper_matrix.specs.Cells.{entry_of, place_of}
use Rattle.hyper_matrix.specs.Places.{Less, AllPlaces}
use Rattle.hyper_matrix.proofs.PlaceOrderLaws.{not_below, before_first, before_from, of_all}
use Rattle.hyper_matrix.proofs.CountLaws.{places_total, same_counts, get-ewise_add, get-built, built-append}
use Rattle.hyper_matrix.proofs.CountLaws.{ewise_add_assoc, ewise_add_comm, ewise_add-empty, T_both, total-ewise_add}
use Rattle.hyper_matrix.proofs.CountLaws.{total-built, total-empty}
use Rattle.hyper_matrix.proofs.SortedListLaws.{entries-in_order, built-in_order, places_of_sum, places_of_built}
use Rattle.merged_cells.specs.declared.front.Front.{Front}
use Rattle.merged_cells.specs.Fronts.{front_cmp, left_of, fronts_of, fronts_sum, AreRising, NoneBefore, AreFronts}
use Rattle.merged_cells.specs.Fronts.{AreSources, IsMerge, IsElsewhere}
use Rattle.merged_cells.proofs.OrderLaws.{all_permuted}
use Rattle.merged_cells.proofs.FrontLaws.{sum_permuted, no_items}

-- a map is that of its entries
again : (m : Counts) → from_entries (entries m) ≡ m
again m = same_counts _ _ (λ q. get-from_entries places_total (entries m) q ∙ sym (get-entries m q))

built_again : (m : Counts) → built (entries m) ≡ m
built_again m = built-in_order (entries m) (entries_sorted m) ∙ again m

pub no_entries : entries (empty {X = ℕ} {R = place_cmp}) ≡ []
no_entries = no_items _ (sym (len-entries empty) ∙ len-empty place_cmp ℕ)

-- an entry before all others of a sum is its first
first_entry : (e : Place × ℕ) (m : Counts) → AllPlaces (Less e.0) (entries m) →
    entries (ewise_add (built (e ∷ [])) m) ≡ e ∷ entries m
first_entry e m all =
    let sorted : T (is_sorted place_cmp (e ∷ entries m)) = T_both _ _ (of_all e.0 (entries m) all) (entries_sorted m) in
    ap entries (ap (ewise_add (built (e ∷ []))) (sym (built_again m)) ∙ sym (built-append (e ∷ []) (entries m))
    ∙ built-in_order (e ∷ entries m) sorted) ∙ entries-in_order (e ∷ entries m) sorted

module _ (Q : Place → Type 0) where
  pub places_of_add : (a b : Counts) → AllPlaces Q (entries a) → AllPlaces Q (entries b) →
      AllPlaces Q (entries (ewise_add a b))
  places_of_add a b = places_of_sum Q (entries (ewise_add a b)) (entries a) (entries b)
      (again (ewise_add a b) ∙ sym (λ i. ewise_add (again a i) (again b i)))

  pub places_of_fronts : (fs : List Front) → AllByRecursion (λ f. AllPlaces Q (left_of f)) fs →
      AllPlaces Q (entries (fronts_sum fs))
  places_of_fronts [] h = subst (AllPlaces Q) (sym no_entries) tt
  places_of_fronts (f ∷ fs) h = places_of_add (built (left_of f)) (fronts_sum fs)
      (places_of_built Q (entries (built (left_of f))) (left_of f) (again (built (left_of f))) h.0)
      (places_of_fronts fs h.1)

-- what stands before a front, and none of the others before that, stands before all
others_behind : (p : Place) (f : Front) → Less p (place_of f.cell) → (fs : List Front) →
    NoneBefore (place_of f.cell) fs → AreRising fs → AllByRecursion (λ g. AllPlaces (Less p) (left_of g)) fs
others_behind p f less [] behind rise = tt
others_behind p f less (g ∷ fs) behind rise = (
  before_first p (place_of g.cell) (left_of g) refl rise.0
      (before_from p (place_of f.cell) (place_of g.cell) less behind.0),
  others_behind p f less fs behind.1 rise.1,
)

apart_less : (p q : Place) → is_lt (place_cmp q p) ≡ false → ((q.0 ≡ p.0) × (q.1 ≡ p.1) → ⊥) → Less p q
apart_less p q e apart = elim (not_below p q e) [
  | inl a ↦ less_place p.0 p.1 q.0 q.1 (inl a)
  | inr b ↦ elim (cases_order p.1 q.1) [
    | inl same ↦ absurd (apart (sym b.0, sym same))
    | inr (inl less) ↦ less_place p.0 p.1 q.0 q.1 (inr (b.0, less))
    | inr (inr more) ↦ absurd (omega (arith, b.1))
  ]
]

rest_behind : (p : Place) (first : Option Front) (fs : List Front) → AreFronts first fs →
    NoneBefore p (fronts_of first fs) → IsElsewhere p first →
    AllPlaces (Less p) (entries (fronts_sum (fronts_of first fs)))
rest_behind p None fs kept behind apart =
    subst (λ (gs : List Front). AllPlaces (Less p) (entries (fronts_sum gs))) (sym kept.least)
    (subst (AllPlaces (Less p)) (sym no_entries) tt)
rest_behind p (Some f) fs kept behind apart =
    let less = apart_less p (place_of f.cell) behind.0 apart in
    places_of_fronts (Less p) (f ∷ fs) (
      before_first p (place_of f.cell) (left_of f) refl kept.rise.0 less,
      others_behind p f less fs kept.least kept.rise.1,
    )

-- All cells at the least place were taken: so their sum is the first entry of what was left.
pub sum_taken : (all : Counts) (sum : Cell) (first : Option Front) (fs : List Front) → AreFronts first fs →
    all ≡ ewise_add (built (entry_of sum ∷ [])) (fronts_sum (fronts_of first fs)) →
    NoneBefore (place_of sum) (fronts_of first fs) → IsElsewhere (place_of sum) first →
    entries all ≡ entry_of sum ∷ entries (fronts_sum (fronts_of first fs))
sum_taken all sum first fs kept is behind apart =
    ap entries is ∙ first_entry (entry_of sum) (fronts_sum (fronts_of first fs))
    (rest_behind (place_of sum) first fs kept behind apart)

-- nothing is left
pub none_left_to_take : (first : Option Front) (fs : List Front) → AreFronts first fs → first ≡ None →
    entries (fronts_sum (fronts_of first fs)) ≡ []
none_left_to_take None fs kept e = ap (λ gs. entries (fronts_sum gs)) kept.least ∙ no_entries
none_left_to_take (Some f) fs kept e = cc

-- two counts at one place
joined : (p : Place) (n m : ℕ) → ewise_add (built ((p, n) ∷ [])) (built ((p, m) ∷ [])) ≡ built ((p, n + m) ∷ [])
joined p n m = same_counts _ _ (λ q.
    get-ewise_add (built ((p, n) ∷ [])) (built ((p, m) ∷ [])) q
    ∙ (λ i. plus (get-built ((p, n) ∷ []) q i) (get-built ((p, m) ∷ []) q i))
    ∙ step (eq_by_cmp place_cmp q p) ∙ sym (get-built ((p, n + m) ∷ []) q))
  where
    step : (b : Bool) → plus (plus (cond b (Some n) None) None) (plus (cond b (Some m) None) None) ≡
        plus (cond b (Some (n + m)) None) None
    step true = refl
    step false = refl

-- one cell more at the place
pub sum_more : (s t : Cell) (x y z : Counts) → x ≡ ewise_add (built (entry_of s ∷ [])) y →
    y ≡ ewise_add (built (entry_of t ∷ [])) z → t.row ≡ s.row → t.col ≡ s.col →
    x ≡ ewise_add (built (((s.row, s.col), s.count + t.count) ∷ [])) z
sum_more s t x y z is rest row col =
    is ∙ ap (ewise_add (built (entry_of s ∷ []))) rest
    ∙ sym (ewise_add_assoc (built (entry_of s ∷ [])) (built (entry_of t ∷ [])) z)
    ∙ ap (λ m. ewise_add m z) ((λ i. ewise_add (built (entry_of s ∷ [])) (built (((row i, col i), t.count) ∷ [])))
    ∙ joined (s.row, s.col) s.count t.count)

-- no count passes the total
pub count_within : (e : Place × ℕ) (x z : Counts) → x ≡ ewise_add (built (e ∷ [])) z → e.1 ≤ total x
count_within e x z is = omega (arith, ap total is, total-ewise_add (built (e ∷ [])) z, total-built (e ∷ []))

-- the total of what is left never rises
pub total_falls : (x y : Counts) (r : Option Cell) → YieldsFirstBy entry_of entries x r y → total y ≤ total x
unfolding total
total_falls x y None h = omega (arith, ap count_sum h.1)
total_falls x y (Some cell) h = omega (arith, ap count_sum h)

-- a matrix is added
pub source_added : (f : Front) (fs gs : List Front) (old m : Counts) → IsPermutation (f ∷ fs) gs → fronts_sum fs ≡ old →
    entries m ≡ left_of f → fronts_sum gs ≡ ewise_add old m
source_added f fs gs old m same view is =
    sum_permuted (f ∷ fs) gs same ∙ (λ i. ewise_add (built (sym is i)) (view i)) ∙
    ap (λ a. ewise_add a old) (built_again m) ∙ ewise_add_comm m old

pub nothing_added : (old m : Counts) → entries m ≡ [] → old ≡ ewise_add old m
nothing_added old m none =
    sym (ap (ewise_add old) (empty_of_len m (len-entries m ∙ ap length none)) ∙ ewise_add-empty old)

pub more_sources : (bound more : ℕ) (f : Front) (fs gs : List Front) (m : Counts) → AreSources bound fs →
    IsPermutation (f ∷ fs) gs → (IsHeap front_cmp fs → IsHeap front_cmp gs) → entries m ≡ left_of f →
    more ≡ bound + total m → AreSources more gs
more_sources bound more f fs gs m kept same heap is sum = record {
  heap = heap kept.heap;
  rise = all_permuted (λ g. T (is_sorted place_cmp (left_of g))) (f ∷ fs) gs same
      (subst (λ (es : List (Place × ℕ)). T (is_sorted place_cmp es)) is (entries_sorted m), kept.rise);
  fits = omega (
    arith,
    kept.fits,
    ap total (source_added f fs gs (fronts_sum fs) m same refl is),
    total-ewise_add (fronts_sum fs) m,
  );
}

-- a merge begins with the least front apart, if there is any
pub begun : (bound : ℕ) (fs : List Front) (first : Option Front) (gs : List Front) → AreSources bound fs →
    IfSome first (λ x. IsPermutation fs (x ∷ gs)) → IfSome first (λ x. PopsGreatest front_cmp fs x gs) →
    IfSome first (λ x. IsHeap front_cmp fs → IsUpperBound front_cmp x gs) → (first ≡ None → length fs ≡ 0) →
    (first ≡ None → gs ≡ fs) → IsMerge bound first gs × (fronts_sum (fronts_of first gs) ≡ fronts_sum fs)
begun bound fs None gs kept popped order below none same =
    let as_before : gs ≡ fs = same refl in (
      record {
        kept = record {
          heap = subst (IsHeap front_cmp) (sym as_before) kept.heap;
          rise = subst AreRising (sym as_before) kept.rise;
          least = as_before ∙ no_items fs (none refl);
        };
        fits = omega (arith, kept.fits, ap (λ hs. total (fronts_sum hs)) as_before);
      },
      ap fronts_sum as_before,
    )
begun bound fs (Some x) gs kept popped order below none same =
    let sums : fronts_sum (x ∷ gs) ≡ fronts_sum fs = sum_permuted fs (x ∷ gs) popped in (
      record {
        kept = record {
          heap = (order kept.heap).0;
          rise = all_permuted (λ g. T (is_sorted place_cmp (left_of g))) fs (x ∷ gs) popped kept.rise;
          least = below kept.heap;
        };
        fits = omega (arith, kept.fits, ap total sums);
      },
      sums,
    )

-- none yet
pub no_sources : (fs : List Front) → fs ≡ [] → IsHeap front_cmp fs → AreSources 0 fs
no_sources fs none heap = record {
  heap = heap;
  rise = subst AreRising (sym none) tt;
  fits = omega (arith, ap (λ gs. total (fronts_sum gs)) none, total-empty);
}
