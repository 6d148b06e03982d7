-- Two lists in order that are walked through side by side: what is found in the one of the places of the other.
use Rattle.std.proofs.Common.{◌≡◌, ℕ, Bool, true, false, cond, T, IsTrue, is_some, List, [], ◌∷◌, ◌↔◌, Some, None}
use Rattle.std.proofs.Common.{sym, ◌∙◌, ap, subst, refl}
use Rattle.std.proofs.lemmas.Bool.{false≢true}
use Rattle.std.specs.Prelude.{Option, MatchOption}
use Rattle.cells.specs.declared.cell.Cell.{Cell}
use Rattle.hyper_matrix.specs.Cells.{entry_of}
use Rattle.std.specs.declared.cmp.Ordering.{Ordering}
use Rattle.std.specs.Ordering.{eq_by_cmp, is_lt, is_eq, ordering_reverse}
use Rattle.std.specs.FinMap.{get, entries, find, is_sorted, get-entries}
use Rattle.std.specs.FinMap.Entries.{below_all}
use Rattle.hyper_matrix.specs.Counts.{Place, place_cmp, Counts}
use Rattle.hyper_matrix.specs.Places.{AllPlaces, IsFirst}
use Rattle.hyper_matrix.specs.Search.{is_before}
use Rattle.hyper_matrix.proofs.CountLaws.{places_total, find_below, is_less, T_first, T_second, T_both, tied}
use Rattle.hyper_matrix.proofs.SortedListLaws.{same_tie}
use Rattle.layer_compaction.specs.Runs.{from_place, left_with}
use Rattle.layer_compaction.proofs.RunLemmas.{other}

-- whether m has an entry is told by a list, at each place of another
abbrev pub Decides : Counts → List (Place × ℕ) → List (Place × ℕ) → Type 0
Decides m left es = AllPlaces (λ q. is_some (get m q) ≡ is_some (find place_cmp q left)) es

-- a list without its head is in order still
rises-from : (q : Place) (es : List (Place × ℕ)) → T (is_sorted place_cmp es) →
    T (is_sorted place_cmp (from_place q es))
rises-from q [] h = tt
rises-from q (e ∷ es) h = step (is_before e.0 q) (rises-from q es (T_second _ _ h))
  where
    step : (b : Bool) → T (is_sorted place_cmp (from_place q es)) →
        T (is_sorted place_cmp (cond b (from_place q es) (e ∷ es)))
    step true rest = rest
    step false rest = h

-- what is passed stands before q, so it isn't at p, before which all of it stands too
find-from : (p q : Place) → ((r : Place) → T (is_before r q) → T (is_before r p)) → (es : List (Place × ℕ)) →
    find place_cmp p (from_place q es) ≡ find place_cmp p es
find-from p q up [] = refl
find-from p q up (e ∷ es) = step (is_before e.0 q) refl (find-from p q up es)
  where
    step : (b : Bool) → is_before e.0 q ≡ b → find place_cmp p (from_place q es) ≡ find place_cmp p es →
        find place_cmp p (cond b (from_place q es) (e ∷ es)) ≡ find place_cmp p (e ∷ es)
    step true is rest = rest ∙ sym (ap (λ b. cond b (Some e.1) (find place_cmp p es))
        (other e.0 p (up e.0 (subst T (sym is) tt))))
    step false is rest = refl

less_trans : (p q r : Place) → T (is_before p q) → T (is_before q r) → T (is_before p r)
less_trans p q r h k = subst (λ o. T (is_lt o)) (sym (places_total.trans p q r (is_less _ h) (is_less _ k))) tt

below_later : (p q : Place) (es : List (Place × ℕ)) → T (is_before p q) → T (below_all place_cmp q es) →
    T (below_all place_cmp p es)
below_later p q [] h k = tt
below_later p q (e ∷ es) h k = T_both _ _ (less_trans p q e.0 h (T_first _ _ k))
    (below_later p q es h (T_second _ _ k))

-- a place at which a list in order doesn't begin, and before which it doesn't, is not found in it
none_at : (q : Place) (e : Place × ℕ) (es : List (Place × ℕ)) → T (below_all place_cmp e.0 es) →
    is_before e.0 q ≡ false → (r : Ordering) → place_cmp q e.0 ≡ r → is_eq r ≡ false → find place_cmp q es ≡ None
none_at q e es below behind Ordering.Less is apart = find_below q es
    (below_later q e.0 es (subst (λ o. T (is_lt o)) (sym is) tt) below)
none_at q e es below behind Ordering.Equal is apart = absurd (false≢true (sym apart))
none_at q e es below behind Ordering.Greater is apart = absurd (false≢true (sym behind
    ∙ ap is_lt (places_total.antisymm e.0 q ∙ ap ordering_reverse is)))

-- a place is found in what begins there or behind it exactly if it begins there
first_found : (q : Place) (es : List (Place × ℕ)) (at : Bool) → T (is_sorted place_cmp es) →
    (IsTrue at ↔ IsFirst q (from_place q es)) → is_some (find place_cmp q (from_place q es)) ≡ at
first_found q [] true h is = absurd (is.0 refl)
first_found q [] false h is = refl
first_found q (e ∷ es) at h is = step (is_before e.0 q) refl is (λ is. first_found q es at (T_second _ _ h) is)
  where
    here : (at : Bool) → is_before e.0 q ≡ false → (IsTrue at ↔ (q ≡ e.0)) → (t : Bool) →
        eq_by_cmp place_cmp q e.0 ≡ t → is_some (cond t (Some e.1) (find place_cmp q es)) ≡ at
    here true behind is true t = refl
    here false behind is true t = absurd (false≢true (is.1 (tied q e.0 t)))
    here true behind is false t = absurd (false≢true (sym t
        ∙ sym (ap (λ p. eq_by_cmp place_cmp q p) (is.0 refl)) ∙ same_tie q))
    here false behind is false t = ap is_some (none_at q e es (T_first _ _ h) behind (place_cmp q e.0) refl t)

    step : (b : Bool) → is_before e.0 q ≡ b → (IsTrue at ↔ IsFirst q (cond b (from_place q es) (e ∷ es))) →
        ((IsTrue at ↔ IsFirst q (from_place q es)) → is_some (find place_cmp q (from_place q es)) ≡ at) →
        is_some (find place_cmp q (cond b (from_place q es) (e ∷ es))) ≡ at
    step true b is rest = rest is
    step false b is rest = here at b is (eq_by_cmp place_cmp q e.0) refl

-- the places behind one are decided by what is left behind it
decides-from : (m : Counts) (q : Place) (left es : List (Place × ℕ)) → T (below_all place_cmp q es) →
    Decides m left es → Decides m (from_place q left) es
decides-from m q left [] below all = tt
decides-from m q left (e ∷ es) below all = (
  all.0 ∙ ap is_some (sym (find-from e.0 q (λ r h. less_trans r q e.0 h (T_first _ _ below)) left)),
  decides-from m q left es (T_second _ _ below) all.1,
)

-- at first the whole map decides
pub decides-all : (m : Counts) (es : List (Place × ℕ)) → Decides m (entries m) es
decides-all m [] = tt
decides-all m (e ∷ es) = (ap is_some (get-entries m e.0), decides-all m es)

-- what an iterator gave, and what it left
pub taken : (head : Option Cell) (before left : List (Place × ℕ)) →
    MatchOption head ((before ≡ []) × (left ≡ [])) (λ cell. before ≡ entry_of cell ∷ left) →
    before ≡ left_with head left
taken None before left is = is.0
taken (Some cell) before left is = is

-- one cell further: what is passed decides no other place, and what begins at the cell's place tells whether it's new
module _ (m : Counts) (old left items es : List (Place × ℕ)) (e : Place × ℕ) (at : Bool) (steps : items ≡ e ∷ es)
    (rises : T (is_sorted place_cmp items)) (others_rise : T (is_sorted place_cmp old))
    (decides : Decides m old items) (passed : left ≡ from_place e.0 old) (stands : IsTrue at ↔ IsFirst e.0 left) where
  both_rise : T (is_sorted place_cmp (e ∷ es))
  both_rise = subst (λ l. T (is_sorted place_cmp l)) steps rises

  pub behind : T (is_sorted place_cmp es) × T (is_sorted place_cmp left) × Decides m left es
      × (is_some (get m e.0) ≡ at)
  behind = (
    T_second _ _ both_rise,
    subst (λ l. T (is_sorted place_cmp l)) (sym passed) (rises-from e.0 old others_rise),
    subst (λ l. Decides m l es) (sym passed)
        (decides-from m e.0 old es (T_first _ _ both_rise) (subst (Decides m old) steps decides).1),
    (subst (Decides m old) steps decides).0 ∙ ap is_some (sym (find-from e.0 e.0 (λ r h. h) old))
        ∙ first_found e.0 old at others_rise (subst (λ l. IsTrue at ↔ IsFirst e.0 l) passed stands),
  )
