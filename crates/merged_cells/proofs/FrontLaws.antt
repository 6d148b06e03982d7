-- The sum of fronts doesn't depend on their order, and steps as the least cell is taken.
use Rattle.std.proofs.Common.{◌≡◌, ℕ, ◌+◌, ◌<◌, cond, ltb, false, true, zero, suc, T, List, [], ◌∷◌, length}
use Rattle.std.proofs.Common.{Option, Some, None, sym, ◌∙◌, ap, subst, refl, inl, inr, arith}
use Rattle.std.specs.Prelude.{unwrap_or, MatchOption, IfSome}
use Rattle.std.specs.Ordering.{is_lt}
use Rattle.std.specs.BinaryHeap.{IsHeap, IsUpperBound, PopsGreatest}
use Rattle.std.specs.List.Sorted.{IsPermutation}
use Rattle.std.specs.FinMap.{get, get-empty, is_sorted, empty}
use Rattle.std.proofs.lemmas.Bool.{lt-ltb, le-ltb, cases_lt, false≢true}
use Rattle.std.proofs.lemmas.List.Recursion.{is_sum_by}
use Rattle.std.proofs.lemmas.List.Sorted.{sum_by-IsPermutation, IsPermutation-refl, IsPermutation-cons}
use Rattle.std.proofs.lemmas.List.Sorted.{IsPermutation-trans, IsPermutation-middle}
use Rattle.hyper_matrix.specs.Counts.{Place, place_cmp, ewise_add, built, plus}
use Rattle.hyper_matrix.specs.Cells.{entry_of, place_of}
use Rattle.hyper_matrix.proofs.CountLaws.{same_counts, get-ewise_add, get-built, gathered, built-append, ewise_add_assoc}
use Rattle.hyper_matrix.proofs.CountLaws.{ewise_add_comm, ewise_add-empty, T_first, T_second}
use Rattle.merged_cells.specs.declared.front.Front.{Front}
use Rattle.merged_cells.specs.Fronts.{front_cmp, left_of, fronts_of, fronts_sum, cells_left, AreRising, NoneBefore}
use Rattle.merged_cells.specs.Fronts.{AreFronts, Pulls}
use Rattle.merged_cells.proofs.OrderLaws.{all_permuted, not_before, before_not_behind}

-- how many fronts have an entry at the place q, and their counts together
abbrev held : Option ℕ → ℕ
held None = 0
held (Some n) = 1

abbrev holders : Place → List Front → ℕ
holders q [] = 0
holders q (f ∷ fs) = held (gathered q (left_of f)) + holders q fs

abbrev amount : Place → List Front → ℕ
amount q [] = 0
amount q (f ∷ fs) = unwrap_or (gathered q (left_of f)) 0 + amount q fs

-- what two numbers say of a place
abbrev told_by : ℕ → ℕ → Option ℕ
told_by n a = cond (ltb 0 n) (Some a) None

told_some : (n a : ℕ) → 0 < n → told_by n a ≡ Some a
told_some n a h = ap (λ b. cond b (Some a) None) (lt-ltb 0 n h)

told_none : (n a : ℕ) → n ≡ 0 → told_by n a ≡ None
told_none n a h = ap (λ b. cond b (Some a) None) (le-ltb 0 n (omega arith))

no_amount : (q : Place) (fs : List Front) → holders q fs ≡ 0 → amount q fs ≡ 0
no_amount q [] h = refl
no_amount q (f ∷ fs) h = step (gathered q (left_of f)) (no_amount q fs) h
  where
    step : (o : Option ℕ) → (holders q fs ≡ 0 → amount q fs ≡ 0) → held o + holders q fs ≡ 0 →
        unwrap_or o 0 + amount q fs ≡ 0
    step None rest h = omega (arith, rest (omega arith))
    step (Some n) rest h = absurd (omega arith)

plus_told : (o : Option ℕ) (n a : ℕ) → (n ≡ 0 → a ≡ 0) → plus o (told_by n a) ≡ told_by (held o + n) (unwrap_or o 0 + a)
plus_told None n a quiet = ap (λ m. told_by m a) {x = n} {y = 0 + n} (omega arith)
    ∙ ap (told_by (0 + n)) {x = a} {y = 0 + a} (omega arith)
plus_told (Some v) n a quiet = elim (cases_lt 0 n) [
  | inl some ↦ ap (plus (Some v)) (told_some n a some) ∙ sym (told_some (1 + n) (v + a) (omega arith))
  | inr none ↦ ap (plus (Some v)) (told_none n a (omega arith)) ∙ ap (λ m. Some m) (omega (arith, quiet (omega arith)))
      ∙ sym (told_some (1 + n) (v + a) (omega arith))
]

get-fronts_sum : (q : Place) (fs : List Front) → get (fronts_sum fs) q ≡ told_by (holders q fs) (amount q fs)
get-fronts_sum q [] = get-empty place_cmp q ∙ sym (told_none 0 0 refl)
get-fronts_sum q (f ∷ fs) =
    get-ewise_add (built (left_of f)) (fronts_sum fs) q
    ∙ ap (λ o. plus o (get (fronts_sum fs) q)) (get-built (left_of f) q)
    ∙ ap (plus (gathered q (left_of f))) (get-fronts_sum q fs)
    ∙ plus_told (gathered q (left_of f)) (holders q fs) (amount q fs) (no_amount q fs)

pub sum_permuted : (fs gs : List Front) → IsPermutation fs gs → fronts_sum gs ≡ fronts_sum fs
sum_permuted fs gs h = same_counts _ _ (λ q.
    let one = is_sum_by (holders q) (λ f. held (gathered q (left_of f))) refl (λ _ _. refl) in
    let all = is_sum_by (amount q) (λ f. unwrap_or (gathered q (left_of f)) 0) refl (λ _ _. refl) in
    get-fronts_sum q gs
    ∙ ap (λ n. told_by n (amount q gs)) (one gs ∙ sum_by-IsPermutation _ fs gs h ∙ sym (one fs))
    ∙ ap (told_by (holders q fs)) (all gs ∙ sum_by-IsPermutation _ fs gs h ∙ sym (all fs))
    ∙ sym (get-fronts_sum q fs))

-- no front is before a place, if none is before one that isn't before it
pub none_before : (p q : Place) → is_lt (place_cmp q p) ≡ false → (fs : List Front) → NoneBefore q fs → NoneBefore p fs
none_before p q e [] h = tt
none_before p q e (f ∷ fs) h = (not_before p q (place_of f.cell) e h.0, none_before p q e fs h.1)

-- two fronts change places
pub crossed : (f g : Front) (old mid new : List Front) → IsPermutation old (g ∷ mid) → IsPermutation (f ∷ mid) new →
    IsPermutation (f ∷ old) (g ∷ new)
crossed f g old mid new popped pushed =
    IsPermutation-trans _ _ _ (IsPermutation-cons f old (g ∷ mid) popped)
    (IsPermutation-trans _ _ _ (IsPermutation-middle (f ∷ []) g mid) (IsPermutation-cons g (f ∷ mid) new pushed))

-- The cell of the first front is taken, and these are the fronts of what is left, in any order.
pub left_permuted : (fs gs : List Front) → IsPermutation fs gs → cells_left gs ≡ cells_left fs
left_permuted fs gs h =
    let all = is_sum_by cells_left (λ (f : Front). suc (length f.rest)) refl (λ _ _. refl) in
    all gs ∙ sum_by-IsPermutation _ fs gs h ∙ sym (all fs)

pulled : (f : Front) (fs hs : List Front) (next : Option Front) (gs : List Front) → AreFronts (Some f) fs →
    fronts_sum hs ≡ ewise_add (built f.rest) (fronts_sum fs) → AreRising hs → NoneBefore (place_of f.cell) hs →
    cells_left hs ≡ length f.rest + cells_left fs → IsPermutation hs (fronts_of next gs) → IsHeap front_cmp gs →
    MatchOption next (gs ≡ []) (λ g. NoneBefore (place_of g.cell) gs) →
    Pulls (Some f) fs f.cell next gs
pulled f fs hs next gs kept sum rise behind count same heap least = record {
  sum =
      ap (λ m. ewise_add m (fronts_sum fs)) (built-append (entry_of f.cell ∷ []) f.rest)
      ∙ ewise_add_assoc (built (entry_of f.cell ∷ [])) (built f.rest) (fronts_sum fs)
      ∙ ap (ewise_add (built (entry_of f.cell ∷ []))) (sym sum ∙ sym (sum_permuted hs (fronts_of next gs) same));
  kept = record {
    heap = heap;
    rise = all_permuted (λ g. T (is_sorted place_cmp (left_of g))) hs (fronts_of next gs) same rise;
    least = least;
  };
  behind = all_permuted (λ g. is_lt (place_cmp (place_of g.cell) (place_of f.cell)) ≡ false) hs (fronts_of next gs) same
      behind;
  first_is = refl;
  fewer = omega (arith, count, left_permuted hs (fronts_of next gs) same);
}

-- The first front moves on to g, and changes places with another or doesn't.
pub moved_on : (f g h : Front) (fs gs : List Front) → AreFronts (Some f) fs → f.rest ≡ left_of g →
    IsPermutation (g ∷ fs) (h ∷ gs) → IsHeap front_cmp gs → NoneBefore (place_of h.cell) gs →
    Pulls (Some f) fs f.cell (Some h) gs
moved_on f g h fs gs kept is same heap least =
    let count : cells_left (g ∷ fs) ≡ length f.rest + cells_left fs = omega (arith, ap length is) in
    let sorted : T (is_sorted place_cmp (left_of g)) = subst (λ (es : List (Place × ℕ)). T (is_sorted place_cmp es)) is
    (T_second _ _ kept.rise.0) in
    let above : T (is_sorted place_cmp (entry_of f.cell ∷ left_of g)) =
    subst (λ (es : List (Place × ℕ)). T (is_sorted place_cmp (entry_of f.cell ∷ es))) is kept.rise.0 in
    pulled f fs (g ∷ fs) (Some h) gs kept (ap (λ es. ewise_add (built es) (fronts_sum fs)) (sym is))
    (sorted, kept.rise.1)
    (before_not_behind (place_of f.cell) (place_of g.cell) (T_first _ _ (T_first _ _ above)), kept.least)
    count same heap least

none_left : (fs : List Front) → ewise_add (built []) (fronts_sum fs) ≡ fronts_sum fs
none_left fs =
    ap (λ m. ewise_add m (fronts_sum fs))
    (same_counts (built []) empty (λ q. get-built [] q ∙ sym (get-empty place_cmp q)))
    ∙ ewise_add_comm empty (fronts_sum fs) ∙ ewise_add-empty (fronts_sum fs)

pub no_items : {X : Type 0} (xs : List X) → length xs ≡ 0 → xs ≡ []
no_items [] e = refl
no_items (x ∷ xs) e = absurd (omega arith)

pub empty_len : (n : ℕ) → (0 < n → false ≡ true) → n ≡ 0
empty_len zero h = refl
empty_len (suc n) h = absurd (false≢true (h (omega arith)))

-- The first front is at its end, and the next is the least of the others, if there is any.
pub ended : (f : Front) (fs : List Front) (next : Option Front) (gs : List Front) → AreFronts (Some f) fs →
    f.rest ≡ [] → IfSome next (λ x. IsPermutation fs (x ∷ gs)) → IfSome next (λ x. PopsGreatest front_cmp fs x gs) →
    IfSome next (λ x. IsHeap front_cmp fs → IsUpperBound front_cmp x gs) → (next ≡ None → length fs ≡ 0) →
    (next ≡ None → gs ≡ fs) → Pulls (Some f) fs f.cell next gs
ended f fs None gs kept is popped order below none same =
    let as_before : gs ≡ fs = same refl in
    pulled f fs fs None gs kept (sym (ap (λ es. ewise_add (built es) (fronts_sum fs)) is ∙ none_left fs)) kept.rise.1
    kept.least (omega (arith, ap length is)) (subst (IsPermutation fs) (sym as_before) (IsPermutation-refl fs))
    (subst (IsHeap front_cmp) (sym as_before) kept.heap) (as_before ∙ no_items fs (none refl))
ended f fs (Some x) gs kept is popped order below none same =
    pulled f fs fs (Some x) gs kept (sym (ap (λ es. ewise_add (built es) (fronts_sum fs)) is ∙ none_left fs))
    kept.rise.1 kept.least (omega (arith, ap length is)) popped (order kept.heap).0 (below kept.heap)
