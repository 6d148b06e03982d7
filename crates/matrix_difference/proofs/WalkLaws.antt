-- What the walk over two lists in order says of the matrices that they build.
use Rattle.std.proofs.Common.{◌≡◌, ℕ, ◌-◌, ◌<◌, Bool, true, false, cond, T, ltb, eqb, List, [], ◌∷◌, map, drop}
use Rattle.std.proofs.Common.{Option, Some, None, Ordering, sym, ◌∙◌, ap, refl, subst}
use Rattle.std.specs.Prelude.{Result, Ok, Err, slice_get}
use Rattle.std.specs.Ordering.{eq_by_cmp, is_lt, ordering_reverse}
use Rattle.std.specs.FinMap.{get, is_sorted}
use Rattle.std.proofs.lemmas.Option.{none-some, same_Some}
use Rattle.cells.specs.declared.cell.Cell.{Cell}
use Rattle.cells.specs.Bounds.{AreWithin}
use Rattle.cells.specs.Order.{Rise}
use Rattle.hyper_matrix.specs.Counts.{Place, place_cmp, plus}
use Rattle.hyper_matrix.specs.Cells.{entry_of, place_of, built_of}
use Rattle.hyper_matrix.specs.Places.{Less, AllPlaces}
use Rattle.hyper_matrix.proofs.CountLaws.{places_total, exact_places, tied, less_not_equal, T_first, T_second, T_both}
use Rattle.hyper_matrix.proofs.CountLaws.{gathered, get-built}
use Rattle.hyper_matrix.proofs.SortedListLaws.{same_tie}
use Rattle.hyper_matrix.proofs.PlaceOrderLaws.{to_all, of_all, before_before, all_map, rises, sorted_rising}
use Rattle.hyper_matrix.proofs.MatrixLaws.{cells_within, entries_within}
use Rattle.matrix_difference.specs.Difference.{left_over, minus, IsDifference, IsFirstFall}
use Rattle.matrix_difference.specs.Walk.{step_of, by_order, counted, with_more, goes_on, walked}
use Rattle.matrix_difference.specs.declared.walk.Step.TheVariants.{Falls, Meet}

abbrev pub Look : Type 0
Look = Place → Option ℕ

-- what a list of cells has at a place
abbrev pub at : List Cell → Place → Option ℕ
at cells q = gathered q (map entry_of cells)

abbrev tie : Place → Place → Bool
tie q p = eq_by_cmp place_cmp q p

abbrev pub Sorted : List Cell → Type 0
Sorted cells = T (is_sorted place_cmp (map entry_of cells))

abbrev After : Cell → List Cell → Type 0
After c cells = AllPlaces (Less (place_of c)) (map entry_of cells)

none_after : (q : Place) (es : List (Place × ℕ)) → AllPlaces (Less q) es → gathered q es ≡ None
none_after q [] h = refl
none_after q (e ∷ es) h =
    ap (λ b. plus (cond b (Some e.1) None) (gathered q es)) (less_not_equal _ h.0) ∙ none_after q es h.1

-- at its own place, and elsewhere
at_own : (c : Cell) (cells : List Cell) → at cells (place_of c) ≡ None → at (c ∷ cells) (place_of c) ≡ Some c.count
at_own c cells none =
    ap (λ b. plus (cond b (Some c.count) None) (at cells (place_of c))) (same_tie (place_of c))
    ∙ ap (plus (Some c.count)) none

at_other : (c : Cell) (cells : List Cell) (q : Place) → tie q (place_of c) ≡ false → at (c ∷ cells) q ≡ at cells q
at_other c cells q t = ap (λ b. plus (cond b (Some c.count) None) (at cells q)) t

-- what the walk says of two lists, seen as what they have at each place
pub record FallsIn (a b : Look) (p : Place) : Type 0 where
  pub falls : minus (a p) (b p) ≡ None
  pub first : (q : Place) → Less q p → minus (a q) (b q) ≡ None → ⊥

abbrev pub Says : Look → Look → Result (List Cell) Place → Type 0
Says a b (Ok cells) = (q : Place) → minus (a q) (b q) ≡ Some (at cells q)
Says a b (Err p) = FallsIn a b p

some-none : (x : Option ℕ) → Some x ≡ None → ⊥
some-none x e = none-some x (sym e)

-- One place more in front of both.
module _ (p : Place) (a b c d : Look) (same_a : (q : Place) → tie q p ≡ false → c q ≡ a q)
    (same_b : (q : Place) → tie q p ≡ false → d q ≡ b q) where
  both_other : (q : Place) → tie q p ≡ false → minus (c q) (d q) ≡ minus (a q) (b q)
  both_other q t = ap (λ o. minus o (d q)) (same_a q t) ∙ ap (minus (a q)) (same_b q t)

  more_ok : (x y : Look) → ((q : Place) → tie q p ≡ false → y q ≡ x q) → minus (c p) (d p) ≡ Some (y p) →
      ((q : Place) → minus (a q) (b q) ≡ Some (x q)) → (q : Place) → minus (c q) (d q) ≡ Some (y q)
  more_ok x y same_x here rest q = step (tie q p) refl
    where
      step : (t : Bool) → tie q p ≡ t → minus (c q) (d q) ≡ Some (y q)
      step true t = subst (λ (r : Place). minus (c r) (d r) ≡ Some (y r)) (sym (tied q p t)) here
      step false t = both_other q t ∙ rest q ∙ ap (λ (o : Option ℕ). Some o) (sym (same_x q t))

  more_falls : (here was : Option ℕ) → minus (c p) (d p) ≡ Some here → minus (a p) (b p) ≡ Some was → (r : Place) →
      FallsIn a b r → FallsIn c d r
  more_falls here was is before r f = record {
    falls = step (tie r p) refl;
    first = λ q less none. earlier q less none (tie q p) refl;
  }
    where
      step : (t : Bool) → tie r p ≡ t → minus (c r) (d r) ≡ None
      step true t = absurd (some-none was (sym before ∙ subst (λ (s : Place). minus (a s) (b s) ≡ None) (tied r p t)
          f.falls))
      step false t = both_other r t ∙ f.falls

      earlier : (q : Place) → Less q r → minus (c q) (d q) ≡ None → (t : Bool) → tie q p ≡ t → ⊥
      earlier q less none true t =
          some-none here (sym is ∙ subst (λ (s : Place). minus (c s) (d s) ≡ None) (tied q p t) none)
      earlier q less none false t = f.first q less (sym (both_other q t) ∙ none)

-- what nothing but an entry more leaves
of_nothing : (x y : Option ℕ) (a b : Option ℕ) → a ≡ None → b ≡ None → minus a b ≡ Some x → x ≡ None
of_nothing x y a b no_a no_b e =
    sym (same_Some None x (sym (ap (λ o. minus o b) no_a ∙ ap (minus None) no_b) ∙ e))

both_none : (a b : Option ℕ) → a ≡ None → b ≡ None → minus a b ≡ Some None
both_none a b no_a no_b = ap (λ o. minus o b) no_a ∙ ap (minus None) no_b

one_more : (m : ℕ) (a b x : Option ℕ) → a ≡ Some m → b ≡ None → x ≡ Some m → minus a b ≡ Some x
one_more m a b x has none is =
    ap (λ o. minus o b) has ∙ ap (minus (Some m)) none ∙ ap (λ (o : Option ℕ). Some o) (sym is)

-- a cell that only the later list has
kept : (a : Cell) (ns bs : List Cell) (r : Result (List Cell) Place) → After a ns → After a bs → Says (at ns) (at bs) r →
    Says (at (a ∷ ns)) (at bs) (with_more (Some a) r)
kept a ns bs (Ok xs) after before rest =
    let p = place_of a in
    let no_a : at ns p ≡ None = none_after p (map entry_of ns) after in
    let no_b : at bs p ≡ None = none_after p (map entry_of bs) before in
    let no_x : at xs p ≡ None = of_nothing (at xs p) None (at ns p) (at bs p) no_a no_b (rest p) in
    more_ok p (at ns) (at bs) (at (a ∷ ns)) (at bs) (at_other a ns) (λ q t. refl) (at xs) (at (a ∷ xs)) (at_other a xs)
    (one_more a.count (at (a ∷ ns) p) (at bs p) (at (a ∷ xs) p) (at_own a ns no_a) no_b (at_own a xs no_x)) rest
kept a ns bs (Err r) after before rest =
    let p = place_of a in
    let no_a : at ns p ≡ None = none_after p (map entry_of ns) after in
    let no_b : at bs p ≡ None = none_after p (map entry_of bs) before in
    more_falls p (at ns) (at bs) (at (a ∷ ns)) (at bs) (at_other a ns) (λ q t. refl) (Some a.count) None
    (one_more a.count (at (a ∷ ns) p) (at bs p) (Some a.count) (at_own a ns no_a) no_b refl)
    (both_none (at ns p) (at bs p) no_a no_b) r rest

-- what is left over of a cell that both have
abbrev IsRest : Cell → ℕ → Option Cell → Type 0
IsRest a n None = left_over a.count n ≡ Some None
IsRest a n (Some c) = (place_of c ≡ place_of a) × (left_over a.count n ≡ Some (Some c.count))

module _ (a b : Cell) (ns bs : List Cell) (same : place_of b ≡ place_of a) (after : After a ns)
    (before : After b bs) where
  no_a : at ns (place_of a) ≡ None
  no_a = none_after (place_of a) (map entry_of ns) after

  no_b : at bs (place_of a) ≡ None
  no_b = subst (λ (p : Place). at bs p ≡ None) same (none_after (place_of b) (map entry_of bs) before)

  own_b : at (b ∷ bs) (place_of a) ≡ Some b.count
  own_b = subst (λ (p : Place). at (b ∷ bs) p ≡ Some b.count) same
      (at_own b bs (none_after (place_of b) (map entry_of bs) before))

  other_b : (q : Place) → tie q (place_of a) ≡ false → at (b ∷ bs) q ≡ at bs q
  other_b q t = at_other b bs q (ap (tie q) same ∙ t)

  counts : minus (at (a ∷ ns) (place_of a)) (at (b ∷ bs) (place_of a)) ≡ left_over a.count b.count
  counts = ap (λ o. minus o (at (b ∷ bs) (place_of a))) (at_own a ns no_a) ∙ ap (minus (Some a.count)) own_b

  met_ok : (c : Option Cell) (xs : List Cell) → IsRest a b.count c → Says (at ns) (at bs) (Ok xs) →
      Says (at (a ∷ ns)) (at (b ∷ bs)) (with_more c (Ok xs))
  met_ok None xs is rest =
      let p = place_of a in
      let no_x : at xs p ≡ None = of_nothing (at xs p) None (at ns p) (at bs p) no_a no_b (rest p) in
      more_ok p (at ns) (at bs) (at (a ∷ ns)) (at (b ∷ bs)) (at_other a ns) other_b (at xs) (at xs) (λ q t. refl)
      (counts ∙ is ∙ ap (λ (o : Option ℕ). Some o) (sym no_x)) rest
  met_ok (Some c) xs is rest =
      let p = place_of a in
      let no_x : at xs p ≡ None = of_nothing (at xs p) None (at ns p) (at bs p) no_a no_b (rest p) in
      let own_c : at (c ∷ xs) p ≡ Some c.count = subst (λ (r : Place). at (c ∷ xs) r ≡ Some c.count) is.0
      (at_own c xs (subst (λ (r : Place). at xs r ≡ None) (sym is.0) no_x)) in
      more_ok p (at ns) (at bs) (at (a ∷ ns)) (at (b ∷ bs)) (at_other a ns) other_b (at xs) (at (c ∷ xs))
      (λ q t. at_other c xs q (ap (tie q) is.0 ∙ t))
      (counts ∙ is.1 ∙ ap (λ (o : Option ℕ). Some o) (sym own_c)) rest

  met_err : (c : Option Cell) (r : Place) → IsRest a b.count c → Says (at ns) (at bs) (Err r) →
      Says (at (a ∷ ns)) (at (b ∷ bs)) (with_more c (Err r))
  met_err None r is rest = more_falls (place_of a) (at ns) (at bs) (at (a ∷ ns)) (at (b ∷ bs)) (at_other a ns) other_b
      None None (counts ∙ is) (both_none (at ns (place_of a)) (at bs (place_of a)) no_a no_b) r rest
  met_err (Some c) r is rest = more_falls (place_of a) (at ns) (at bs) (at (a ∷ ns)) (at (b ∷ bs)) (at_other a ns)
      other_b (Some c.count) None (counts ∙ is.1) (both_none (at ns (place_of a)) (at bs (place_of a)) no_a no_b) r rest

  met : (c : Option Cell) (r : Result (List Cell) Place) → IsRest a b.count c → Says (at ns) (at bs) r →
      Says (at (a ∷ ns)) (at (b ∷ bs)) (with_more c r)
  met c (Ok xs) is rest = met_ok c xs is rest
  met c (Err r) is rest = met_err c r is rest

  -- before the first of both there is nothing
  nothing_before : (q : Place) → Less q (place_of a) → minus (at (a ∷ ns) q) (at (b ∷ bs) q) ≡ None → ⊥
  nothing_before q less none =
      let less_b : Less q (place_of b) = subst (Less q) (sym same) less in
      some-none None (sym (both_none (at (a ∷ ns) q) (at (b ∷ bs) q)
      (none_after q (map entry_of (a ∷ ns)) (
        less,
        all_map (Less (place_of a)) (Less q)
            (λ r h. before_before q (place_of a) r less h) (map entry_of ns) after,
      ))
      (none_after q (map entry_of (b ∷ bs)) (
        less_b,
        all_map (Less (place_of b)) (Less q)
            (λ r h. before_before q (place_of b) r less_b h) (map entry_of bs) before,
      ))) ∙ none)

  both : (r : Result (List Cell) Place) (k : Result (List Cell) Place) → Says (at ns) (at bs) r → (t u : Bool) →
      ltb a.count b.count ≡ t → eqb a.count b.count ≡ u →
      Says (at (a ∷ ns)) (at (b ∷ bs)) (goes_on (cond t (Falls a.row a.col) (cond u (Meet None)
      (Meet (Some (record { row = a.row; col = a.col; count = a.count - b.count }))))) k r)
  both r k rest true u l e = record {
    falls = counts ∙ ap (λ x. cond x None (cond (eqb a.count b.count) (Some None) (Some (Some (a.count - b.count))))) l;
    first = nothing_before;
  }
  both r k rest false true l e = met None r
      (ap (λ x. cond x None (cond (eqb a.count b.count) (Some None) (Some (Some (a.count - b.count))))) l
      ∙ ap (λ x. cond x (Some None) (Some (Some (a.count - b.count)))) e) rest
  both r k rest false false l e = met (Some (record { row = a.row; col = a.col; count = a.count - b.count })) r (
    refl,
    ap (λ x. cond x None (cond (eqb a.count b.count) (Some None) (Some (Some (a.count - b.count))))) l
        ∙ ap (λ x. cond x (Some None) (Some (Some (a.count - b.count)))) e,
  ) rest

-- a place that only the earlier list has, before all of the later one
gone : (ns : List Cell) (b : Cell) (bs : List Cell) → AllPlaces (Less (place_of b)) (map entry_of ns) → After b bs →
    FallsIn (at ns) (at (b ∷ bs)) (place_of b)
gone ns b bs none after =
    let p = place_of b in record {
      falls = ap (λ o. minus o (at (b ∷ bs) p)) (none_after p (map entry_of ns) none)
          ∙ ap (minus None) (at_own b bs (none_after p (map entry_of bs) after));
      first = λ q less is. some-none None (sym (both_none (at ns q) (at (b ∷ bs) q)
          (none_after q (map entry_of ns) (all_map (Less p) (Less q) (λ r h. before_before q p r less h)
          (map entry_of ns) none))
          (none_after q (map entry_of (b ∷ bs)) (
            less,
            all_map (Less p) (Less q)
                (λ r h. before_before q p r less h) (map entry_of bs) after,
          ))) ∙ is);
    }

-- the place of the first, which stands before another's, stands before all behind that
before_all : (p : Place) (c : Cell) (cells : List Cell) → Less p (place_of c) → After c cells →
    AllPlaces (Less p) (map entry_of (c ∷ cells))
before_all p c cells less after = (
  less,
  all_map (Less (place_of c)) (Less p)
      (λ r h. before_before p (place_of c) r less h) (map entry_of cells) after,
)

is_less : (o : Ordering) → o ≡ Ordering.Less → T (is_lt o)
is_less o e = subst (λ x. T (is_lt x)) (sym e) tt

turned_less : (p q : Place) → place_cmp p q ≡ Ordering.Greater → Less q p
turned_less p q e = is_less (place_cmp q p) (places_total.antisymm q p ∙ ap ordering_reverse e)

pub walk_says : (ns bs : List Cell) → Sorted ns → Sorted bs → Says (at ns) (at bs) (walked ns bs)
walk_says [] [] s t = λ q. refl
walk_says [] (b ∷ bs) s t = gone [] b bs tt (to_all (place_of b) (map entry_of bs) (T_first _ _ t))
walk_says (a ∷ ns) [] s t =
    kept a ns [] (walked ns []) (to_all (place_of a) (map entry_of ns) (T_first _ _ s)) tt
    (walk_says ns [] (T_second _ _ s) t)
walk_says (a ∷ ns) (b ∷ bs) s t =
    step (place_cmp (place_of b) (place_of a)) refl (walk_says ns (b ∷ bs) (T_second _ _ s) t)
    (walk_says ns bs (T_second _ _ s) (T_second _ _ t))
  where
    after_a : After a ns
    after_a = to_all (place_of a) (map entry_of ns) (T_first _ _ s)

    after_b : After b bs
    after_b = to_all (place_of b) (map entry_of bs) (T_first _ _ t)

    step : (o : Ordering) → place_cmp (place_of b) (place_of a) ≡ o → Says (at ns) (at (b ∷ bs)) (walked ns (b ∷ bs)) →
        Says (at ns) (at bs) (walked ns bs) → Says (at (a ∷ ns)) (at (b ∷ bs))
        (goes_on (by_order o b a) (walked ns (b ∷ bs)) (walked ns bs))
    step Ordering.Less e k m = gone (a ∷ ns) b bs (before_all (place_of b) a ns (is_less _ e) after_a) after_b
    step Ordering.Equal e k m = both a b ns bs (exact_places (place_of b) (place_of a) e) after_a after_b (walked ns bs)
        (walked ns (b ∷ bs)) m (ltb a.count b.count) (eqb a.count b.count) refl refl
    step Ordering.Greater e k m = kept a ns (b ∷ bs) (walked ns (b ∷ bs)) after_a
        (before_all (place_of a) b bs (turned_less (place_of b) (place_of a) e) after_b) k

-- What holds of the difference from a cell of the later list on, where something holds of the difference behind it.
module _ (Rest All : Result (List Cell) Place → Type 0) (a : Cell) (errs : (p : Place) → All (Err p))
    (pass : (r : Result (List Cell) Place) → Rest r → All r)
    (add : (c : Cell) (r : Result (List Cell) Place) → place_of c ≡ place_of a → Rest r →
    All (with_more (Some c) r)) where
  stepped_counted : (n : ℕ) (k m : Result (List Cell) Place) → Rest m → All (goes_on (counted a n) k m)
  stepped_counted n k m rest = step (ltb a.count n) (eqb a.count n)
    where
      step : (t u : Bool) → All (goes_on (cond t (Falls a.row a.col) (cond u (Meet None)
          (Meet (Some (record { row = a.row; col = a.col; count = a.count - n }))))) k m)
      step true u = errs (place_of a)
      step false true = pass m rest
      step false false = add (record { row = a.row; col = a.col; count = a.count - n }) m refl rest

  stepped : (o : Option Cell) (k m : Result (List Cell) Place) → Rest k → Rest m → All (goes_on (step_of a o) k m)
  stepped None k m in_k in_m = add a k refl in_k
  stepped (Some b) k m in_k in_m = step (place_cmp (place_of b) (place_of a))
    where
      step : (o : Ordering) → All (goes_on (by_order o b a) k m)
      step Ordering.Less = errs (place_of b)
      step Ordering.Equal = stepped_counted b.count k m in_m
      step Ordering.Greater = add a k refl in_k

-- each place of the difference is one of the later list
abbrev pub AreIn : (Place → Type 0) → Result (List Cell) Place → Type 0
AreIn Q (Ok cells) = AllPlaces Q (map entry_of cells)
AreIn Q (Err p) = Unit {0}

one_in : (Q : Place → Type 0) (c : Cell) (r : Result (List Cell) Place) → Q (place_of c) → AreIn Q r →
    AreIn Q (with_more (Some c) r)
one_in Q c (Ok cells) h rest = (h, rest)
one_in Q c (Err p) h rest = tt

pub walk_in : (Q : Place → Type 0) (ns bs : List Cell) → AllPlaces Q (map entry_of ns) → AreIn Q (walked ns bs)
walk_in Q [] [] h = tt
walk_in Q [] (b ∷ bs) h = tt
walk_in Q (a ∷ ns) bs h = stepped (AreIn Q) (AreIn Q) a (λ p. tt) (λ r x. x)
    (λ c r same x. one_in Q c r (subst Q (sym same) h.0) x) (slice_get bs 0) (walked ns bs) (walked ns (drop 1 bs))
    (walk_in Q ns bs h.1) (walk_in Q ns (drop 1 bs) h.1)

-- and they are in order
abbrev pub IsOrdered : Result (List Cell) Place → Type 0
IsOrdered (Ok cells) = Sorted cells
IsOrdered (Err p) = Unit {0}

record FollowsInOrder (p : Place) (r : Result (List Cell) Place) : Type 0 where
  after : AreIn (Less p) r
  ordered : IsOrdered r

one_ordered : (p : Place) (c : Cell) (r : Result (List Cell) Place) → place_of c ≡ p → FollowsInOrder p r →
    IsOrdered (with_more (Some c) r)
one_ordered p c (Ok cells) same h = T_both _ _ (of_all (place_of c) (map entry_of cells)
    (subst (λ (q : Place). AllPlaces (Less q) (map entry_of cells)) (sym same) h.after)) h.ordered
one_ordered p c (Err e) same h = tt

pub walk_ordered : (ns bs : List Cell) → Sorted ns → IsOrdered (walked ns bs)
walk_ordered [] [] s = tt
walk_ordered [] (b ∷ bs) s = tt
walk_ordered (a ∷ ns) bs s =
    let after : After a ns = to_all (place_of a) (map entry_of ns) (T_first _ _ s) in
    stepped (FollowsInOrder (place_of a)) IsOrdered a (λ p. tt) (λ r x. x.ordered) (one_ordered (place_of a))
    (slice_get bs 0) (walked ns bs) (walked ns (drop 1 bs))
    (record { after = walk_in (Less (place_of a)) ns bs after; ordered = walk_ordered ns bs (T_second _ _ s) })
    (record {
      after = walk_in (Less (place_of a)) ns (drop 1 bs) after;
      ordered = walk_ordered ns (drop 1 bs) (T_second _ _ s);
    })

-- So for what cells build.
pub difference_is : (ns bs xs : List Cell) → Rise ns → Rise bs → walked ns bs ≡ Ok xs →
    IsDifference (built_of ns) (built_of bs) (built_of xs)
difference_is ns bs xs s t e q =
    let said : Says (at ns) (at bs) (Ok xs) =
    subst (Says (at ns) (at bs)) e (walk_says ns bs (sorted_rising ns s) (sorted_rising bs t)) in
    ap (λ o. minus o (get (built_of bs) q)) (get-built (map entry_of ns) q)
    ∙ ap (minus (at ns q)) (get-built (map entry_of bs) q)
    ∙ said q
    ∙ ap (λ (o : Option ℕ). Some o) (sym (get-built (map entry_of xs) q))

pub first_fall_is : (ns bs : List Cell) (p : Place) → Rise ns → Rise bs → walked ns bs ≡ Err p →
    IsFirstFall (built_of ns) (built_of bs) p
first_fall_is ns bs p s t e =
    let said : FallsIn (at ns) (at bs) p =
    subst (Says (at ns) (at bs)) e (walk_says ns bs (sorted_rising ns s) (sorted_rising bs t)) in
    record {
      falls = at_place p ∙ said.falls;
      first = λ q less is. said.first q less (sym (at_place q) ∙ is);
    }
  where
    at_place : (q : Place) → minus (get (built_of ns) q) (get (built_of bs) q) ≡ minus (at ns q) (at bs q)
    at_place q = ap (λ o. minus o (get (built_of bs) q)) (get-built (map entry_of ns) q)
        ∙ ap (minus (at ns q)) (get-built (map entry_of bs) q)

pub difference_rises : (ns bs xs : List Cell) → Rise ns → walked ns bs ≡ Ok xs → Rise xs
difference_rises ns bs xs s e = rises xs (subst IsOrdered e (walk_ordered ns bs (sorted_rising ns s)))

pub difference_within : (rows cols : ℕ) (ns bs xs : List Cell) → AreWithin rows cols ns → walked ns bs ≡ Ok xs →
    AreWithin rows cols xs
difference_within rows cols ns bs xs w e =
    cells_within rows cols xs (subst (AreIn (λ p. (p.0 < rows) × (p.1 < cols))) e
    (walk_in (λ p. (p.0 < rows) × (p.1 < cols)) ns bs (entries_within rows cols ns w)))
