-- The order of places in lists of cells: where two lists in order make one, and what a cut at a place leaves in order.
use Rattle.std.proofs.Common.{◌≡◌, ℕ, zero, suc, ◌+◌, ◌<◌, ◌≤◌, ◌⊎◌, false, T, List, [], ◌∷◌, ◌++◌, get_or, map, sym, ◌∙◌}
use Rattle.std.proofs.Common.{subst, refl, inl, inr, arith}
use Rattle.std.specs.Ordering.{is_lt}
use Rattle.std.specs.FinMap.{is_sorted}
use Rattle.std.specs.FinMap.Entries.{below_all}
use Rattle.std.proofs.lemmas.Bool.{cases_order, cases_lt, false≢true}
use Rattle.hyper_matrix.specs.Counts.{Place, place_cmp}
use Rattle.hyper_matrix.specs.Places.{Less, AllPlaces, Precede, IsFirst}
use Rattle.hyper_matrix.specs.Cells.{entry_of}
use Rattle.cells.specs.Order.{Precedes, Rise}
use Rattle.cells.specs.declared.cell.Cell.{Cell}
use Rattle.hyper_matrix.proofs.CountLaws.{places_total, T_first, T_second, T_both, is_less, less_not_equal}
use Rattle.cells.proofs.OrderLaws.{less_place}
use Rattle.hyper_matrix.proofs.SortedListLaws.{same_tie}

-- what isn't below a place
pub not_below : (p q : Place) → is_lt (place_cmp q p) ≡ false → (p.0 < q.0) ⊎ ((p.0 ≡ q.0) × (p.1 ≤ q.1))
not_below p q e = elim (cases_order p.0 q.0) [
  | inl same ↦ elim (cases_lt q.1 p.1) [
    | inl less ↦ absurd (subst T e
        (less_place q.0 q.1 p.0 p.1 (inr (sym same, less))))
    | inr le ↦ inr (same, le)
  ]
  | inr (inl less) ↦ inl less
  | inr (inr more) ↦ absurd (subst T e (less_place q.0 q.1 p.0 p.1 (inl more)))
]

pub before_before : (p q r : Place) → Less p q → Less q r → Less p r
before_before p q r a b = subst (λ o. T (is_lt o)) (sym (places_total.trans p q r (is_less _ a) (is_less _ b))) tt

irreflexive : (p : Place) → Less p p → ⊥
irreflexive p h = false≢true (sym (less_not_equal _ h) ∙ same_tie p)

not_both : (p q : Place) → Less p q → Less q p → ⊥
not_both p q h g = irreflexive p (before_before p q p h g)

-- what a place that stands before another is
pub place_less : (p q : Place) → Less p q → (p.0 < q.0) ⊎ ((p.0 ≡ q.0) × (p.1 < q.1))
place_less p q h = elim (cases_order p.0 q.0) [
  | inl same ↦ elim (cases_order p.1 q.1) [
    | inl tie ↦ absurd (irreflexive q (subst (λ x. Less x q) {x = p} {y = q} (λ k. (same k, tie k)) h))
    | inr (inl less) ↦ inr (same, less)
    | inr (inr more) ↦ absurd (not_both p q h (less_place q.0 q.1 p.0 p.1 (inr (sym same, more))))
  ]
  | inr (inl less) ↦ inl less
  | inr (inr more) ↦ absurd (not_both p q h (less_place q.0 q.1 p.0 p.1 (inl more)))
]

-- what stands before a place stands before what is not below it
pub before_from : (p k q : Place) → Less p k → is_lt (place_cmp q k) ≡ false → Less p q
before_from p k q h e = elim (place_less p k h) [
  | inl a ↦ elim (not_below k q e) [
    | inl b ↦ less_place p.0 p.1 q.0 q.1 (inl (omega arith))
    | inr b ↦
        less_place p.0 p.1 q.0 q.1 (inl (omega (arith, a, b.0)))
  ]
  | inr a ↦ elim (not_below k q e) [
    | inl b ↦ less_place p.0 p.1 q.0 q.1 (inl (omega (arith, a.0, b)))
    | inr b ↦
        less_place p.0 p.1 q.0 q.1 (inr (a.0 ∙ b.0, omega (arith, a.1, b.1)))
  ]
]

module _ (Q : Place → Type 0) where
  pub all_append : (xs ys : List (Place × ℕ)) → AllPlaces Q xs → AllPlaces Q ys → AllPlaces Q (xs ++ ys)
  all_append [] ys a b = b
  all_append (x ∷ xs) ys a b = (a.0, all_append xs ys a.1 b)

  pub all_front : (xs ys : List (Place × ℕ)) → AllPlaces Q (xs ++ ys) → AllPlaces Q xs
  all_front [] ys a = tt
  all_front (x ∷ xs) ys a = (a.0, all_front xs ys a.1)

  pub all_back : (xs ys : List (Place × ℕ)) → AllPlaces Q (xs ++ ys) → AllPlaces Q ys
  all_back [] ys a = a
  all_back (x ∷ xs) ys a = all_back xs ys a.1

pub all_map : (Q R : Place → Type 0) → ((p : Place) → Q p → R p) → (xs : List (Place × ℕ)) → AllPlaces Q xs →
    AllPlaces R xs
all_map Q R f [] a = tt
all_map Q R f (x ∷ xs) a = (f x.0 a.0, all_map Q R f xs a.1)

pub to_all : (p : Place) (es : List (Place × ℕ)) → T (below_all place_cmp p es) → AllPlaces (Less p) es
to_all p [] h = tt
to_all p (e ∷ es) h = (T_first _ _ h, to_all p es (T_second _ _ h))

pub of_all : (p : Place) (es : List (Place × ℕ)) → AllPlaces (Less p) es → T (below_all place_cmp p es)
of_all p [] h = tt
of_all p (e ∷ es) h = T_both _ _ h.0 (of_all p es h.1)

pub sorted_join : (xs ys : List (Place × ℕ)) → T (is_sorted place_cmp xs) → T (is_sorted place_cmp ys) → Precede xs ys →
    T (is_sorted place_cmp (xs ++ ys))
sorted_join [] ys a b p = b
sorted_join (x ∷ xs) ys a b p = T_both _ _ (of_all x.0 (xs ++ ys)
    (all_append (Less x.0) xs ys (to_all x.0 xs (T_first _ _ a)) p.0)) (sorted_join xs ys (T_second _ _ a) b p.1)

pub sorted_front : (xs ys : List (Place × ℕ)) → T (is_sorted place_cmp (xs ++ ys)) → T (is_sorted place_cmp xs)
sorted_front [] ys h = tt
sorted_front (x ∷ xs) ys h = T_both _ _ (of_all x.0 xs (all_front (Less x.0) xs ys
    (to_all x.0 (xs ++ ys) (T_first _ _ h)))) (sorted_front xs ys (T_second _ _ h))

pub sorted_back : (xs ys : List (Place × ℕ)) → T (is_sorted place_cmp (xs ++ ys)) → T (is_sorted place_cmp ys)
sorted_back [] ys h = h
sorted_back (x ∷ xs) ys h = sorted_back xs ys (T_second _ _ h)

pub precedes : (xs ys : List (Place × ℕ)) → T (is_sorted place_cmp (xs ++ ys)) → Precede xs ys
precedes [] ys h = tt
precedes (x ∷ xs) ys h = (
  all_back (Less x.0) xs ys (to_all x.0 (xs ++ ys) (T_first _ _ h)),
  precedes xs ys (T_second _ _ h),
)

-- what stands before the first of a list in order stands before all of it
pub before_first : (p k : Place) (ys : List (Place × ℕ)) → IsFirst k ys → T (is_sorted place_cmp ys) → Less p k →
    AllPlaces (Less p) ys
before_first p k [] f s h = absurd f
before_first p k (y ∷ ys) f s h =
    let here : Less p y.0 = subst (Less p) f h in
    (here, all_map (Less y.0) (Less p) (λ q g. before_before p y.0 q here g) ys (to_all y.0 ys (T_first _ _ s)))

-- the places of cells whose entries are in order rise
pub rises : (cells : List Cell) → T (is_sorted place_cmp (map entry_of cells)) → Rise cells
rises [] h k d m = absurd (omega arith)
rises (x ∷ []) h k d m = absurd (omega arith)
rises (x ∷ y ∷ cells) h zero d m = place_less (x.row, x.col) (y.row, y.col) (T_first _ _ (T_first _ _ h))
rises (x ∷ y ∷ cells) h (suc k) d m =
    subst (λ n. Precedes (get_or (y ∷ cells) k d) (get_or (x ∷ y ∷ cells) n d)) {x = suc (k + 1)} {y = suc k + 1}
    (omega arith) (rises (y ∷ cells) (T_second _ _ h) k d (omega arith))

-- a place that precedes another
less_cell : (x y : Cell) → Precedes x y → Less (x.row, x.col) (y.row, y.col)
less_cell x y h = less_place x.row x.col y.row y.col h

pub rise_tail : (x : Cell) (cells : List Cell) → Rise (x ∷ cells) → Rise cells
rise_tail x cells r k d h = subst (λ n. Precedes (get_or cells k d) (get_or (x ∷ cells) n d)) {x = suc k + 1} {y = suc
    (k + 1)} (omega arith) (r (suc k) d (omega arith))

-- cells whose places rise are in order
pub sorted_rising : (cells : List Cell) → Rise cells → T (is_sorted place_cmp (map entry_of cells))
sorted_rising [] r = tt
sorted_rising (x ∷ []) r = tt
sorted_rising (x ∷ y ∷ cells) r =
    let rest : T (is_sorted place_cmp (map entry_of (y ∷ cells))) = sorted_rising (y ∷ cells)
    (rise_tail x (y ∷ cells) r) in
    sorted_join (entry_of x ∷ []) (map entry_of (y ∷ cells)) tt rest (
      before_first (x.row, x.col) (y.row, y.col) (map entry_of (y ∷ cells)) refl rest
          (less_cell x y (r 0 x (omega arith))),
      tt,
    )
