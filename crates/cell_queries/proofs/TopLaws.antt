-- The rows that lead, as one row more is offered.
use Rattle.std.proofs.Common.{◌≡◌, ℕ, ◌+◌, ◌<◌, ◌≤◌, ◌⊎◌, T, true, false, List, [], ◌∷◌, ◌++◌, length, map, get_or}
use Rattle.std.proofs.Common.{refl, sym, ◌∙◌}
use Rattle.std.proofs.Common.{ap, subst, inl, inr, arith, length-append}
use Rattle.std.proofs.Common.{Option, Some, None, Bor, Ordering, Result, Ok, Err, IfOk}
use Rattle.std.specs.Prelude.{All, IfSome, IfNone, IsSome, option_map, min}
use Rattle.std.specs.Ordering.{is_lt, is_ge}
use Rattle.std.proofs.lemmas.Bool.{false≢true}
use Rattle.std.specs.List.{Contains}
use Rattle.std.specs.List.Sorted.{IsPermutation, IsSortedBy}
use Rattle.std.specs.BinaryHeap.{IsHeap, IsUpperBound, PopsGreatest}
use Rattle.std.proofs.lemmas.List.{get_or-map, get_or_default, map-append, length-map}
use Rattle.std.proofs.lemmas.List.Elements.{All-nil, All-cons, All-head, All-tail, All-weaker, All-from_recursion}
use Rattle.std.proofs.lemmas.List.Elements.{All-map}
use Rattle.std.proofs.lemmas.List.Elements.{Contains-append_cases, All-contains_itself}
use Rattle.std.proofs.lemmas.List.Sorted.{IsPermutation-refl, IsPermutation-sym, IsPermutation-trans}
use Rattle.std.proofs.lemmas.List.Sorted.{IsPermutation-cons}
use Rattle.std.proofs.lemmas.List.Sorted.{IsPermutation-to_front, IsPermutation-middle, IsPermutation-append_left}
use Rattle.std.proofs.lemmas.List.Sorted.{IsPermutation-map, All-permutation, length_permutation}
use Rattle.cells.proofs.OrderLaws.{not_below}
use Rattle.hyper_matrix.proofs.PlaceOrderLaws.{place_less}
use Rattle.cell_queries.specs.declared.tally.RowTally.{RowTally}
use Rattle.cell_queries.specs.declared.top.TopBy.{TopBy}
use Rattle.cell_queries.specs.declared.top.Ranked.{Ranked}
use Rattle.cell_queries.specs.Tops.{number_of, IsAhead, IsTop}
use Rattle.cell_queries.specs.Heaps.{ranked, ranked_cmp, StandsAhead, FallBehind, Joins, StaysOut, Displaces, IsOffered}
use Rattle.cell_queries.specs.Heaps.{Leading, Leads, AreLed}

-- what comparisons say
pub not_before : (r s : Ranked) → is_lt (ranked_cmp s r) ≡ false → StandsAhead r s
not_before r s e = elim (not_below (s.number, r.tally.row) (r.number, s.tally.row) e) [
  | inl more ↦ inl more
  | inr tie ↦ inr (sym tie.0, tie.1)
]

pub before : (r s : Ranked) → is_lt (ranked_cmp r s) ≡ true → StandsAhead r s
before r s e = elim (place_less (s.number, r.tally.row) (r.number, s.tally.row) (subst T (sym e) tt)) [
  | inl more ↦ inl more
  | inr tie ↦ inr (sym tie.0, omega (arith, tie.1))
]

pub all_before : (last : Ranked) (rs : List Ranked) → IsUpperBound ranked_cmp last rs → All (λ r. StandsAhead r last) rs
all_before last rs h =
    All-weaker (λ r. is_lt (ranked_cmp last r) ≡ false) (λ r. StandsAhead r last) (λ r e. not_before r last e) rs
    (All-from_recursion (λ r. is_lt (ranked_cmp last r) ≡ false) rs h)

ahead_trans : (r s t : Ranked) → StandsAhead r s → StandsAhead s t → StandsAhead r t
ahead_trans r s t (inl a) (inl b) = inl (omega arith)
ahead_trans r s t (inl a) (inr b) = inl (omega (arith, b.0))
ahead_trans r s t (inr a) (inl b) = inl (omega (arith, a.0))
ahead_trans r s t (inr a) (inr b) = inr (a.0 ∙ b.0, omega (arith, a.1, b.1))

-- what holds of what a reference in an option points to
pub copied_some : {X : Type 0} (P : X → Type 0) (o : Option (Bor X)) (x : X) → option_map (λ y. y.now) o ≡ Some x →
    IfSome o (λ y. P y.now) → P x
copied_some P None x is h = absurd (cc)
copied_some P (Some y) x is h = let same : y.now ≡ x = cc in subst P same h

-- a row that isn't ahead of the last stays out
pub stays_out : (most : ℕ) (x last : Ranked) (olds : List Ranked) → most ≤ length olds →
    IsUpperBound ranked_cmp last olds → is_lt (ranked_cmp x last) ≡ false → IsOffered most x olds olds
stays_out most x last olds full bound e = inr (inl (record {
  full = full;
  behind = All-weaker (λ s. StandsAhead s last) (λ s. StandsAhead s x)
      (λ s h. ahead_trans s last x h (not_before last x e)) olds (all_before last olds bound);
  same = refl;
}))

-- and so does any where none has a place
pub no_place : (most : ℕ) (x : Ranked) (olds : List Ranked) → most ≤ length olds → length olds ≡ 0 →
    IsOffered most x olds olds
no_place most x olds full none = inr (inl (record {
  full = full;
  behind = λ k d h. absurd (omega arith);
  same = refl;
}))

-- the last made room for a row that is ahead of it
pub takes_place : (most n : ℕ) (x last : Ranked) (olds mid news : List Ranked) (r : Option Ranked) →
    IsHeap ranked_cmp olds → most ≤ length olds → 0 < length olds → 0 < n → IfSome r (λ w. w ≡ get_or olds 0 w) →
    IfSome r (λ w. IsPermutation olds (w ∷ mid)) → IfSome r (λ w. PopsGreatest ranked_cmp olds w mid) →
    IfNone r (n ≡ 0) → last ≡ get_or olds 0 last → is_lt (ranked_cmp x last) ≡ true →
    IsPermutation (x ∷ mid) news → IsOffered most x olds news
takes_place most n x last olds mid news None heap full some pos top parts pops none is e joined =
    absurd (omega (arith, none))
takes_place most n x last olds mid news (Some w) heap full some pos top parts pops none is e joined =
    let same : last ≡ w = is ∙ get_or_default olds 0 last w some ∙ sym top in
    inr (inr (record {
      full = full;
      last = w;
      others = mid;
      parts = parts;
      behind = all_before w olds (pops heap).1;
      ahead = subst (λ (y : Ranked). StandsAhead x y) same (before x last e);
      joined = joined;
    }))

pub leads_none : (by : TopBy) (most : ℕ) → Leads by most [] []
leads_none by most = record {
  dropped = [];
  all = IsPermutation-refl [];
  ahead = All-nil (λ r. All (StandsAhead r) []);
  long = omega arith;
}

module _ (by : TopBy) (most : ℕ) (done : List RowTally) (items after : List Ranked) (t : RowTally)
    (l : Leads by most done items) where
  more_done : length (done ++ t ∷ []) ≡ length done + 1
  more_done = length-append done (t ∷ [])

  -- all rows: those that are done, and the next in front of them
  all_now : IsPermutation (map (ranked by) (done ++ t ∷ [])) (ranked by t ∷ (items ++ l.dropped))
  all_now =
      subst (λ (rs : List Ranked). IsPermutation rs (ranked by t ∷ (items ++ l.dropped)))
      (sym (map-append (ranked by) done (t ∷ [])))
      (IsPermutation-trans (map (ranked by) done ++ ranked by t ∷ []) (ranked by t ∷ map (ranked by) done)
      (ranked by t ∷ (items ++ l.dropped)) (IsPermutation-to_front (map (ranked by) done) (ranked by t))
      (IsPermutation-cons (ranked by t) (map (ranked by) done) (items ++ l.dropped) l.all))

  counted : length items + length l.dropped ≡ length done
  counted =
      sym (length-append items l.dropped) ∙ length_permutation _ _ l.all ∙ length-map done (ranked by)

  leads_joined : Joins most (ranked by t) items after → Leads by most (done ++ t ∷ []) after
  leads_joined j =
      let few : length items < most = j.room in
      let count = counted in
      let more = more_done in
      let longer : length after ≡ length items + 1 =
      length_permutation (ranked by t ∷ items) after j.joined ∙ omega arith in
      let none : length l.dropped ≡ 0 = omega (arith, l.long) in
      record {
        dropped = l.dropped;
        all = IsPermutation-trans _ (ranked by t ∷ (items ++ l.dropped)) (after ++ l.dropped) all_now
            (IsPermutation-append_left l.dropped (ranked by t ∷ items) after j.joined);
        ahead = All-permutation (λ r. All (StandsAhead r) l.dropped) (ranked by t ∷ items) after j.joined
            (All-cons (λ r. All (StandsAhead r) l.dropped) (ranked by t) items (λ k d h. absurd (omega arith)) l.ahead);
        long = omega (arith, l.long);
      }

  leads_same : StaysOut most (ranked by t) items after → Leads by most (done ++ t ∷ []) after
  leads_same s =
      let full : most ≤ length items = s.full in
      let more = more_done in
      subst (Leads by most (done ++ t ∷ [])) (sym s.same) (record {
        dropped = ranked by t ∷ l.dropped;
        all = IsPermutation-trans _ (ranked by t ∷ (items ++ l.dropped)) (items ++ ranked by t ∷ l.dropped) all_now
            (IsPermutation-sym (items ++ ranked by t ∷ l.dropped) (ranked by t ∷ (items ++ l.dropped))
            (IsPermutation-middle items (ranked by t) l.dropped));
        ahead = λ k d h. All-cons (StandsAhead (get_or items k d)) (ranked by t) l.dropped (s.behind k d h)
            (l.ahead k d h);
        long = omega (arith, l.long);
      })

  leads_displaced : Displaces most (ranked by t) items after → Leads by most (done ++ t ∷ []) after
  leads_displaced d =
      let x : Ranked = ranked by t in
      let full : most ≤ length items = d.full in
      let more = more_done in
      let one : length (d.last ∷ d.others) ≡ length items = length_permutation items (d.last ∷ d.others) d.parts in
      let two : length after ≡ length (x ∷ d.others) = length_permutation (x ∷ d.others) after d.joined in
      let behind : All (λ r. StandsAhead r d.last) (d.last ∷ d.others) =
      All-permutation (λ r. StandsAhead r d.last) items (d.last ∷ d.others) d.parts d.behind in
      let apart : All (λ r. All (StandsAhead r) l.dropped) (d.last ∷ d.others) =
      All-permutation (λ r. All (StandsAhead r) l.dropped) items (d.last ∷ d.others) d.parts l.ahead in
      let last_apart : All (StandsAhead d.last) l.dropped =
      All-head (λ r. All (StandsAhead r) l.dropped) d.last d.others apart in
      let moved : IsPermutation (x ∷ (items ++ l.dropped)) (after ++ d.last ∷ l.dropped) =
      IsPermutation-trans (x ∷ (items ++ l.dropped)) (x ∷ (d.last ∷ (d.others ++ l.dropped)))
      (after ++ d.last ∷ l.dropped)
      (IsPermutation-cons x (items ++ l.dropped) (d.last ∷ (d.others ++ l.dropped))
      (IsPermutation-append_left l.dropped items (d.last ∷ d.others) d.parts))
      (IsPermutation-trans (x ∷ (d.last ∷ (d.others ++ l.dropped))) (d.last ∷ (x ∷ (d.others ++ l.dropped)))
      (after ++ d.last ∷ l.dropped)
      (IsPermutation-middle (x ∷ []) d.last (d.others ++ l.dropped))
      (IsPermutation-trans (d.last ∷ (x ∷ (d.others ++ l.dropped))) ((x ∷ d.others) ++ d.last ∷ l.dropped)
      (after ++ d.last ∷ l.dropped)
      (IsPermutation-sym ((x ∷ d.others) ++ d.last ∷ l.dropped) (d.last ∷ (x ∷ (d.others ++ l.dropped)))
      (IsPermutation-middle (x ∷ d.others) d.last l.dropped))
      (IsPermutation-append_left (d.last ∷ l.dropped) (x ∷ d.others) after d.joined))) in
      record {
        dropped = d.last ∷ l.dropped;
        all = IsPermutation-trans _ (x ∷ (items ++ l.dropped)) (after ++ d.last ∷ l.dropped) all_now moved;
        ahead = All-permutation (λ r. All (StandsAhead r) (d.last ∷ l.dropped)) (x ∷ d.others) after d.joined
            (All-cons (λ r. All (StandsAhead r) (d.last ∷ l.dropped)) x d.others
            (All-cons (StandsAhead x) d.last l.dropped d.ahead
            (All-weaker (StandsAhead d.last) (StandsAhead x) (λ r h. ahead_trans x d.last r d.ahead h) l.dropped
            last_apart))
            (λ k e h. All-cons (StandsAhead (get_or d.others k e)) d.last l.dropped
            (All-tail (λ r. StandsAhead r d.last) d.last d.others behind k e h)
            (All-tail (λ r. All (StandsAhead r) l.dropped) d.last d.others apart k e h)));
        long = omega (arith, l.long);
      }

  pub leads_more : IsOffered most (ranked by t) items after → Leads by most (done ++ t ∷ []) after
  leads_more (inl j) = leads_joined j
  leads_more (inr (inl s)) = leads_same s
  leads_more (inr (inr d)) = leads_displaced d

pub led_more : (by : TopBy) (most : ℕ) (rows : List RowTally) (old : Leading) (items : List Ranked) (t : RowTally)
    (r : Ranked) → AreLed by most rows old → r ≡ ranked old.by t → IsOffered old.most r old.items items →
    AreLed by most (rows ++ t ∷ []) (record { by = old.by; most = old.most; items = items })
led_more by most rows old items t r led is offered = record {
  by_is = led.by_is;
  most_is = led.most_is;
  leads = leads_more by most rows old.items items t led.leads
      (subst (λ n. IsOffered n (ranked by t) old.items items) led.most_is
      (subst (λ (s : Ranked). IsOffered old.most s old.items items) (is ∙ ap (λ b. ranked b t) led.by_is) offered));
}

-- rows lead in whatever order they were offered
pub led_in_any_order : (by : TopBy) (most : ℕ) (rows others : List RowTally) (l : Leading) → IsPermutation rows others →
    AreLed by most rows l → AreLed by most others l
led_in_any_order by most rows others l same led = record {
  by_is = led.by_is;
  most_is = led.most_is;
  leads = record {
    dropped = led.leads.dropped;
    all = IsPermutation-trans (map (ranked by) others) (map (ranked by) rows) (l.items ++ led.leads.dropped)
        (IsPermutation-sym (map (ranked by) rows) (map (ranked by) others)
        (IsPermutation-map (ranked by) rows others same)) led.leads.all;
    ahead = led.leads.ahead;
    long = led.leads.long ∙ ap (min most) (sym (length_permutation rows others same));
  };
}

-- each of the rows with its number
abbrev IsRanked : TopBy → Ranked → Type 0
IsRanked by r = r.number ≡ number_of by r.tally

tallies_again : (by : TopBy) (ts : List RowTally) → map (λ (r : Ranked). r.tally) (map (ranked by) ts) ≡ ts
tallies_again by [] = refl
tallies_again by (t ∷ ts) = ap (λ us. t ∷ us) (tallies_again by ts)

all_front : {X : Type 0} (P : X → Type 0) (xs ys : List X) → All P (xs ++ ys) → All P xs
all_front P [] ys h = All-nil P
all_front P (x ∷ xs) ys h = All-cons P x xs (All-head P x (xs ++ ys) h) (all_front P xs ys (All-tail P x (xs ++ ys) h))

all_back : {X : Type 0} (P : X → Type 0) (xs ys : List X) → All P (xs ++ ys) → All P ys
all_back P [] ys h = h
all_back P (x ∷ xs) ys h = all_back P xs ys (All-tail P x (xs ++ ys) h)

told : (by : TopBy) (r s : Ranked) → IsRanked by r → IsRanked by s → StandsAhead r s → IsAhead by r.tally s.tally
told by r s a b (inl more) = inl (omega (arith, a, b))
told by r s a b (inr tie) = inr (sym a ∙ tie.0 ∙ b, tie.1)

-- the rows of the heap in order are the top
pub top_told : (by : TopBy) (most : ℕ) (ts : List RowTally) (items sorted : List Ranked) (top : List RowTally) →
    Leads by most ts items → IsPermutation items sorted → FallBehind sorted → top ≡ map (λ r. r.tally) sorted →
    IsTop by most ts top
top_told by most ts items sorted top l same order is = subst (IsTop by most ts) (sym is) (record {
  rest = map (λ r. r.tally) l.dropped;
  all =
      subst (λ (us : List RowTally). IsPermutation us (map (λ r. r.tally) sorted ++ map (λ r. r.tally) l.dropped))
      (tallies_again by ts)
      (IsPermutation-trans _ (map (λ r. r.tally) items ++ map (λ r. r.tally) l.dropped)
      (map (λ r. r.tally) sorted ++ map (λ r. r.tally) l.dropped)
      (subst (λ (us : List RowTally). IsPermutation (map (λ r. r.tally) (map (ranked by) ts)) us)
      (map-append (λ (r : Ranked). r.tally) items l.dropped)
      (IsPermutation-map (λ (r : Ranked). r.tally) (map (ranked by) ts) (items ++ l.dropped) l.all))
      (IsPermutation-append_left (map (λ r. r.tally) l.dropped) (map (λ r. r.tally) items) (map (λ r. r.tally) sorted)
      (IsPermutation-map (λ (r : Ranked). r.tally) items sorted same)));
  ranked = λ k d h.
      let below : k + 1 < length sorted = omega (arith, h, length-map sorted (λ (r : Ranked). r.tally)) in
      subst (λ (u : RowTally). IsAhead by (get_or (map (λ r. r.tally) sorted) k d) u)
      (sym (get_or-map (λ (r : Ranked). r.tally) sorted (k + 1) (ranked by d) d below))
      (subst (λ (u : RowTally). IsAhead by u (get_or sorted (k + 1) (ranked by d)).tally)
      (sym (get_or-map (λ (r : Ranked). r.tally) sorted k (ranked by d) d (omega (arith, below))))
      (told by (get_or sorted k (ranked by d)) (get_or sorted (k + 1) (ranked by d))
      (here k (ranked by d) (omega (arith, below))) (here (k + 1) (ranked by d) below) (order k (ranked by d) below)));
  ahead = All-map (λ t. All (IsAhead by t) (map (λ r. r.tally) l.dropped)) (λ (r : Ranked). r.tally) sorted
      (λ k d h. All-map (IsAhead by (get_or sorted k d).tally) (λ (r : Ranked). r.tally) l.dropped
      (λ j e m. told by (get_or sorted k d) (get_or l.dropped j e) (here k d h) (gone j e m)
      (All-permutation (λ r. All (StandsAhead r) l.dropped) items sorted same l.ahead k d h j e m)));
  long = length-map sorted (λ (r : Ranked). r.tally) ∙ length_permutation items sorted same ∙ l.long;
})
  where
    numbers : All (IsRanked by) (items ++ l.dropped)
    numbers = All-permutation (IsRanked by) (map (ranked by) ts) (items ++ l.dropped) l.all
        (All-map (IsRanked by) (ranked by) ts (λ k d h. refl))

    here : All (IsRanked by) sorted
    here = All-permutation (IsRanked by) items sorted same (all_front (IsRanked by) items l.dropped numbers)

    gone : All (IsRanked by) l.dropped
    gone = all_back (IsRanked by) items l.dropped numbers

-- what a top says
pub top_leads : (by : TopBy) (most : ℕ) (rows top : List RowTally) (h : IsTop by most rows top) →
    All (λ t. All (λ u. number_of by u ≤ number_of by t) h.rest) top
top_leads by most rows top h k d m j e n = no_less (get_or top k d) (get_or h.rest j e) (h.ahead k d m j e n)
  where
    no_less : (t u : RowTally) → IsAhead by t u → number_of by u ≤ number_of by t
    no_less t u (inl more) = omega (arith, more)
    no_less t u (inr tie) = omega (arith, tie.0)

pub none_left_out : (by : TopBy) (most : ℕ) (rows top : List RowTally) (h : IsTop by most rows top) →
    All (λ t. Contains top t ⊎ Contains h.rest t) rows
none_left_out by most rows top h =
    All-permutation (λ t. Contains top t ⊎ Contains h.rest t) (top ++ h.rest) rows
    (IsPermutation-sym rows (top ++ h.rest) h.all)
    (All-weaker (Contains (top ++ h.rest)) (λ t. Contains top t ⊎ Contains h.rest t)
    (λ t there. Contains-append_cases top h.rest t there) (top ++ h.rest) (All-contains_itself (top ++ h.rest)))

pub rows_alone : (by : TopBy) (most : ℕ) (rows top : List RowTally) → IsTop by most rows top → All (Contains rows) top
rows_alone by most rows top h =
    all_front (Contains rows) top h.rest
    (All-permutation (Contains rows) rows (top ++ h.rest) h.all (All-contains_itself rows))

-- where no row is as far behind as the last, it isn't before it
pub not_ge : (o : Ordering) → is_ge o ≡ false → is_lt o ≡ true
not_ge Ordering.Less e = refl
not_ge Ordering.Equal e = absurd (false≢true (sym e))
not_ge Ordering.Greater e = absurd (false≢true (sym e))

pub some_there : {X : Type 0} (o : Option (Bor X)) (x : X) → option_map (λ y. y.now) o ≡ Some x → IsSome o
some_there None x is = absurd (cc)
some_there (Some y) x is = refl

pub falls_behind : (rs : List Ranked) → IsSortedBy (λ x y. is_lt (ranked_cmp x y)) rs → FallBehind rs
falls_behind rs h k d below =
    not_before (get_or rs k d) (get_or rs (k + 1) d) (h k d (omega arith) below)

pub ok_weaker : {A E : Type 0} (r : Result A E) (P Q : A → Type 0) → ((x : A) → P x → Q x) → IfOk r P → IfOk r Q
ok_weaker (Ok x) P Q f h = f x h
ok_weaker (Err e) P Q f h = tt
