-- The order of cells in a file is the order of a map's entries.
use Rattle.std.proofs.Common.{◌≡◌, ℕ, ◌+◌, ◌<◌, ◌≤◌, ◌⊎◌, false, T, List, [], ◌∷◌, map, Ordering, refl, sym, ap, subst}
use Rattle.std.proofs.Common.{◌∙◌, arith, inl, inr}
use Rattle.std.specs.Ordering.{nat_cmp, is_lt, ordering_then}
use Rattle.std.proofs.lemmas.Bool.{cases_order}
use Rattle.std.specs.FinMap.{empty, entries, is_sorted, from_sorted, get-from_sorted, entries-from_sorted}
use Rattle.std.specs.FinMap.Entries.{below_all}
use Rattle.std.specs.Cmp.{nat_cmp_is}
use Rattle.std.proofs.lemmas.Bool.Decides.{nat_tests}
use Rattle.hyper_matrix.specs.Counts.{Place, Counts, place_cmp, built, ewise_add}
use Rattle.hyper_matrix.specs.Cells.{entry_of}
use Rattle.hyper_matrix.proofs.CountLaws.{same_counts, get-built, gathered-rising, T_first, T_second, T_both}
use Rattle.hyper_matrix.proofs.CountLaws.{ewise_add_comm, ewise_add-empty}
use Rattle.cells.proofs.OrderLaws.{less_place}
use Rattle.snap_file.specs.Table.{is_below}
use Rattle.snap_file.proofs.Again.{RiseFrom, cell_of}

-- what a map's entries build is the map
pub built-entries : (m : Counts) → built (entries m) ≡ m
unfolding ewise_add built
built-entries m = ewise_add_comm empty m ∙ ewise_add-empty m

pub entries-built : (es : List (Place × ℕ)) → T (is_sorted place_cmp es) → entries (built es) ≡ es
entries-built es sorted =
    ap entries (same_counts (built es) (from_sorted es) (λ q. get-built es q ∙ gathered-rising q es sorted ∙
    sym (get-from_sorted place_cmp es q sorted)))
    ∙ entries-from_sorted place_cmp es sorted

pub entries_again : (es : List (Place × ℕ)) → map entry_of (map cell_of es) ≡ es
entries_again [] = refl
entries_again (e ∷ es) = ap (λ (l : List (Place × ℕ)). e ∷ l) (entries_again es)

-- one place is behind another
behind : (r c s d : ℕ) → (r < s) ⊎ ((r ≡ s) × (c < d)) → is_below s d r (c + 1) ≡ false
behind r c s d (inl h) = grind (arith, nat_tests)
behind r c s d (inr h) = let e = h.0 in let k = h.1 in grind (arith, nat_tests)

ahead : (r c s d : ℕ) → is_below s d r (c + 1) ≡ false → (r < s) ⊎ ((r ≡ s) × (c < d))
ahead r c s d e = grind (arith, nat_tests)

less_tells : (r c s d : ℕ) → T (is_lt (place_cmp (r, c) (s, d))) → (r < s) ⊎ ((r ≡ s) × (c < d))
less_tells r c s d h = elim (cases_order r s) [
  | inl same ↦
      let g = subst (λ (o : Ordering). T (is_lt (ordering_then o (nat_cmp c d))))
      (sym (nat_cmp_is r s Ordering.Equal same)) h in
      elim (cases_order c d) [
        | inl e ↦ absurd (subst (λ (o : Ordering). T (is_lt o)) (sym (nat_cmp_is c d Ordering.Equal e)) g)
        | inr (inl less) ↦ inr (same, less)
        | inr (inr more) ↦ absurd (subst (λ (o : Ordering). T (is_lt o)) (sym (nat_cmp_is c d Ordering.Greater more)) g)
      ]
  | inr (inl less) ↦ inl less
  | inr (inr more) ↦ absurd (subst (λ (o : Ordering). T (is_lt (ordering_then o (nat_cmp c d))))
      (sym (nat_cmp_is r s Ordering.Greater more)) h)
]

rises : (r c : ℕ) (es : List (Place × ℕ)) → T (below_all place_cmp (r, c) es) → T (is_sorted place_cmp es) →
    RiseFrom r (c + 1) es
rises r c [] b s = tt
rises r c (e ∷ es) b s = (
  behind r c e.0.0 e.0.1 (less_tells r c e.0.0 e.0.1 (T_first _ _ b)),
  rises e.0.0 e.0.1 es (T_first _ _ s) (T_second _ _ s),
)

pub rise_all : (es : List (Place × ℕ)) → T (is_sorted place_cmp es) → RiseFrom 0 0 es
rise_all [] s = tt
rise_all (e ∷ es) s = (grind (arith, nat_tests), rises e.0.0 e.0.1 es (T_first _ _ s) (T_second _ _ s))

-- cells that rise from behind a place are all behind it
below_rising : (r c s d : ℕ) (es : List (Place × ℕ)) → (r < s) ⊎ ((r ≡ s) × (c < d)) → RiseFrom s d es →
    T (below_all place_cmp (r, c) es)
below_rising r c s d [] h rise = tt
below_rising r c s d (e ∷ es) h rise =
    let there = from_least e.0.0 e.0.1 s d rise.0 in
    let less = joined r c s d e.0.0 e.0.1 h there in
    T_both _ _ (less_place r c e.0.0 e.0.1 less) (below_rising r c e.0.0 (e.0.1 + 1) es
    (further r c e.0.0 e.0.1 less) rise.1)
  where
    from_least : (x y s d : ℕ) → is_below x y s d ≡ false → (s < x) ⊎ ((s ≡ x) × (d ≤ y))
    from_least x y s d e = grind (arith, nat_tests)

    joined : (r c s d x y : ℕ) → (r < s) ⊎ ((r ≡ s) × (c < d)) → (s < x) ⊎ ((s ≡ x) × (d ≤ y)) →
        (r < x) ⊎ ((r ≡ x) × (c < y))
    joined r c s d x y (inl a) (inl b) = inl (omega arith)
    joined r c s d x y (inl a) (inr b) = let e = b.0 in inl (omega arith)
    joined r c s d x y (inr a) (inl b) = let e = a.0 in inl (omega arith)
    joined r c s d x y (inr a) (inr b) = let h = a.1 in let k = b.1 in inr (a.0 ∙ b.0, omega arith)

    further : (r c x y : ℕ) → (r < x) ⊎ ((r ≡ x) × (c < y)) → (r < x) ⊎ ((r ≡ x) × (c < y + 1))
    further r c x y (inl a) = inl a
    further r c x y (inr a) = let h = a.1 in inr (a.0, omega arith)

pub sorted_rising : (r c : ℕ) (es : List (Place × ℕ)) → RiseFrom r c es → T (is_sorted place_cmp es)
sorted_rising r c [] rise = tt
sorted_rising r c (e ∷ es) rise = T_both _ _ (below_rising e.0.0 e.0.1 e.0.0 (e.0.1 + 1) es
    (inr (refl, omega arith)) rise.1) (sorted_rising e.0.0 (e.0.1 + 1) es rise.1)
