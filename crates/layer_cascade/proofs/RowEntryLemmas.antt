-- A row's columns counted one after another, and what a matrix adds to those of others.
use Rattle.std.proofs.Common.{◌≡◌, ℕ, zero, suc, ◌+◌, ◌<◌, ◌≤◌, ◌⊎◌, ◌^◌, Bool, true, false, cond, eqb, ltb, ◌&&◌}
use Rattle.std.proofs.Common.{◌||◌, is_some, Option, Some, None, sym, ◌∙◌, ap, subst, refl, inl, inr, arith}
use Rattle.std.proofs.Common.{List, [], ◌∷◌, ◌-◌, length, take, drop, get_or, IfSome, MatchOption}
use Rattle.std.specs.declared.sync.Arc.{Arc}
use Rattle.std.specs.Arc.{arc_value}
use Rattle.std.specs.Ordering.{eq_by_cmp}
use Rattle.std.specs.FinMap.{empty, get, insert, len, retain_keys, get-empty, get-insert, len-insert, len-empty}
use Rattle.std.specs.FinMap.{empty_of_len}
use Rattle.std.proofs.lemmas.List.{drop_all, take_all, length-drop}
use Rattle.std.proofs.lemmas.Bool.{cases_order, lt-ltb, le-ltb, eqb-true, eq-eqb, ne_eqb}
use Rattle.hyper_matrix.specs.Counts.{Place, place_cmp, Counts, ewise_add, add_at, plus}
use Rattle.hyper_matrix.proofs.CountLaws.{same_counts, places_total, get-ewise_add, plus-none, ewise_add-empty}
use Rattle.hyper_matrix.proofs.CountLaws.{get-add_at, tied}
use Rattle.hyper_matrix.proofs.CellLaws.{same_place}
use Rattle.hyper_matrix.proofs.RowOfLaws.{get-row_of, get-row_of_here, row_of-ewise_add}
use Rattle.hyper_matrix.specs.RowOf.{row_of, IsFree, IsFirst, HasNoneFrom}
use Rattle.hyper_matrix.specs.declared.row_sum.Entry.{Entry}
use Rattle.hyper_matrix.specs.Matrix.{Matrix}
use Rattle.layer_compaction.specs.Shared.{content, values, all_counts}
use Rattle.layer_cascade.specs.Columns.{HasColumns}
use Rattle.layer_compaction.proofs.LayerLemmas.{empty-ewise_add}
use Rattle.layer_compaction.proofs.LayerLemmas.{sum_more}
use Rattle.layer_compaction.proofs.RowLemmas.{get-kept, none_kept, row_of-empty}
use Rattle.layer_compaction.proofs.RunLemmas.{len-add_at}

-- the entries of row r before column `from`
pub row_before : Counts → ℕ → ℕ → Counts
row_before m r from = retain_keys m (λ p. eqb p.0 r && ltb p.1 from)

pub get-row_before : (m : Counts) (r from : ℕ) (q : Place) →
    get (row_before m r from) q ≡ cond (eqb q.0 r && ltb q.1 from) (get m q) None
unfolding row_before
get-row_before m r from q = get-kept m (λ p. eqb p.0 r && ltb p.1 from) q

row_before-zero : (m : Counts) (r : ℕ) → row_before m r 0 ≡ empty
row_before-zero m r = same_counts _ _ (λ q. get-row_before m r 0 q
    ∙ ap (λ b. cond b (get m q) None) (ap (λ b. eqb q.0 r && b) (le-ltb q.1 0 (omega arith))
    ∙ and_false (eqb q.0 r)) ∙ sym (get-empty place_cmp q))
  where
    and_false : (b : Bool) → b && false ≡ false
    and_false true = refl
    and_false false = refl

-- no entry at `from` or behind it: the row is what stands before
row_before-all : (m : Counts) (r from : ℕ) → HasNoneFrom m r from → row_before m r from ≡ row_of m r
row_before-all m r from none = same_counts _ _
    (λ q. get-row_before m r from q ∙ same q.0 q.1 (eqb q.0 r) refl ∙ sym (get-row_of m r q))
  where
    behind : (a b : ℕ) → a ≡ r → (b ≡ from) ⊎ ((b < from) ⊎ (from < b)) →
        cond (ltb b from) (get m (a, b)) None ≡ get m (a, b)
    behind a b row (inr (inl h)) = ap (λ t. cond t (get m (a, b)) None) (lt-ltb b from h)
    behind a b row (inl h) = ap (λ t. cond t (get m (a, b)) None) (le-ltb b from (omega arith))
        ∙ sym (ap (λ x. get m (x, b)) row ∙ none b (omega arith))
    behind a b row (inr (inr h)) = ap (λ t. cond t (get m (a, b)) None) (le-ltb b from (omega arith))
        ∙ sym (ap (λ x. get m (x, b)) row ∙ none b (omega arith))

    same : (a b : ℕ) (t : Bool) → eqb a r ≡ t → cond (t && ltb b from) (get m (a, b)) None ≡ cond t (get m (a, b)) None
    same a b false e = refl
    same a b true e = behind a b (eqb-true a r e) (cases_order b from)

module _ (m : Counts) (r from c v : ℕ) (order : from ≤ c) (free : IsFree m r from c) (stands : get m (r, c) ≡ Some v)
  where
    before_next : (a b : ℕ) → a ≡ r → (b ≡ c) ⊎ ((b < c) ⊎ (c < b)) →
        cond (ltb b (c + 1)) (get m (a, b)) None ≡ cond (eqb b c) (Some v) (cond (ltb b from) (get m (a, b)) None)
    before_next a b row (inl h) = rw (lt-ltb b (c + 1) (omega arith), eq-eqb b c h)
        (ap (λ x. get m (x, b)) row ∙ ap (λ y. get m (r, y)) h ∙ stands)
    before_next a b row (inr (inr h)) = rw (
      le-ltb b (c + 1) (omega arith),
      ne_eqb b c (λ e. omega arith),
      le-ltb b from (omega arith),
    ) refl
    before_next a b row (inr (inl h)) = rw (lt-ltb b (c + 1) (omega arith), ne_eqb b c (λ e. omega arith))
        (below (cases_order b from))
      where
        below : (b ≡ from) ⊎ ((b < from) ⊎ (from < b)) → get m (a, b) ≡ cond (ltb b from) (get m (a, b)) None
        below (inr (inl less)) = sym (ap (λ t. cond t (get m (a, b)) None) (lt-ltb b from less))
        below (inl same) = ap (λ x. get m (x, b)) row ∙ free b (omega arith) h
            ∙ sym (ap (λ t. cond t (get m (a, b)) None) (le-ltb b from (omega arith)))
        below (inr (inr more)) = ap (λ x. get m (x, b)) row ∙ free b (omega arith) h
            ∙ sym (ap (λ t. cond t (get m (a, b)) None) (le-ltb b from (omega arith)))

    by_row : (a b : ℕ) (t : Bool) → eqb a r ≡ t →
        cond (t && ltb b (c + 1)) (get m (a, b)) None ≡ cond (cond t (eqb b c) false) (Some v)
        (cond (t && ltb b from) (get m (a, b)) None)
    by_row a b false e = refl
    by_row a b true e = before_next a b (eqb-true a r e) (cases_order b c)

    row_before-insert : row_before m r (c + 1) ≡ insert (row_before m r from) (r, c) v
    row_before-insert = same_counts _ _ (λ q.
        get-row_before m r (c + 1) q ∙ by_row q.0 q.1 (eqb q.0 r) refl
        ∙ sym (get-insert places_total (row_before m r from) (r, c) v q
        ∙ ap (λ o. cond (eq_by_cmp place_cmp q (r, c)) (Some v) o) (get-row_before m r from q)
        ∙ ap (λ t. cond t (Some v) (cond (eqb q.0 r && ltb q.1 from) (get m q) None)) (same_place q.0 q.1 r c)))

    new_column : get (row_before m r from) (r, c) ≡ None
    new_column = get-row_before m r from (r, c)
        ∙ ap (λ t. cond (eqb r r && t) (get m (r, c)) None) (le-ltb c from order)
        ∙ no (eqb r r)
      where
        no : (t : Bool) → cond (t && false) (get m (r, c)) None ≡ None
        no true = refl
        no false = refl

    row_before-next : len (row_before m r (c + 1)) ≡ len (row_before m r from) + 1
    row_before-next = ap len row_before-insert ∙ len-insert places_total (row_before m r from) (r, c) v
        ∙ ap (λ o. cond (is_some o) (len (row_before m r from)) (len (row_before m r from) + 1)) new_column

    -- one column more, beside a row of others: it counts where they have none there
    module _ (a : Counts) where
      abbrev beside : Counts
      beside = ewise_add (row_of a r) (row_before m r from)

      one_place : (q : Place) (t : Bool) → eq_by_cmp place_cmp q (r, c) ≡ t →
          plus (get (row_of a r) q) (cond t (Some v) (get (row_before m r from) q)) ≡ plus
          (plus (get (row_of a r) q) (get (row_before m r from) q)) (cond t (Some v) None)
      one_place q false e = sym (plus-none _)
      one_place q true e =
          sym (ap (λ o. plus (plus (get (row_of a r) q) o) (Some v))
          (ap (get (row_before m r from)) (tied q (r, c) e) ∙ new_column)
          ∙ ap (λ o. plus o (Some v)) (plus-none (get (row_of a r) q)))

      beside-next : ewise_add (row_of a r) (row_before m r (c + 1)) ≡ add_at beside (r, c) v
      beside-next = same_counts _ _ (λ q.
          get-ewise_add (row_of a r) (row_before m r (c + 1)) q
          ∙ ap (plus (get (row_of a r) q)) (ap (λ x. get x q) row_before-insert
          ∙ get-insert places_total (row_before m r from) (r, c) v q)
          ∙ one_place q (eq_by_cmp place_cmp q (r, c)) refl
          ∙ sym (get-add_at beside (r, c) v q
          ∙ ap (λ o. plus o (cond (eq_by_cmp place_cmp q (r, c)) (Some v) None))
          (get-ewise_add (row_of a r) (row_before m r from) q)))

      beside-here : get beside (r, c) ≡ get a (r, c)
      beside-here = get-ewise_add (row_of a r) (row_before m r from) (r, c)
          ∙ ap (plus (get (row_of a r) (r, c))) new_column ∙ plus-none (get (row_of a r) (r, c))
          ∙ get-row_of_here a r (r, c) refl

      pub with_next : len (ewise_add (row_of a r) (row_before m r (c + 1))) ≡ cond (is_some (get a (r, c))) 0 1
          + len (ewise_add (row_of a r) (row_before m r from))
      with_next = ap len beside-next ∙ len-add_at beside (r, c) v
          ∙ ap (λ o. cond (is_some o) 0 1 + len beside) beside-here

row_before-skip : (m : Counts) (r n : ℕ) → get m (r, n) ≡ None → row_before m r (n + 1) ≡ row_before m r n
row_before-skip m r n none = same_counts _ _ (λ q.
    get-row_before m r (n + 1) q ∙ same q.0 q.1 (eqb q.0 r) refl ∙ sym (get-row_before m r n q))
  where
    at : (a b : ℕ) → a ≡ r → (b ≡ n) ⊎ ((b < n) ⊎ (n < b)) →
        cond (ltb b (n + 1)) (get m (a, b)) None ≡ cond (ltb b n) (get m (a, b)) None
    at a b row (inl h) =
        let is : get m (a, b) ≡ None = ap (λ x. get m (x, b)) row ∙ ap (λ y. get m (r, y)) h ∙ none in
        none_kept (ltb b (n + 1)) _ is ∙ sym (none_kept (ltb b n) _ is)
    at a b row (inr (inl h)) = ap (λ t. cond t (get m (a, b)) None)
        (lt-ltb b (n + 1) (omega arith) ∙ sym (lt-ltb b n h))
    at a b row (inr (inr h)) = ap (λ t. cond t (get m (a, b)) None)
        (le-ltb b (n + 1) (omega arith) ∙ sym (le-ltb b n (omega arith)))

    same : (a b : ℕ) (t : Bool) → eqb a r ≡ t →
        cond (t && ltb b (n + 1)) (get m (a, b)) None ≡ cond (t && ltb b n) (get m (a, b)) None
    same a b false e = refl
    same a b true e = at a b (eqb-true a r e) (cases_order b n)

-- no more columns stand before `from` than there are
row_before-few : (m : Counts) (r from : ℕ) → len (row_before m r from) ≤ from
row_before-few m r zero = omega (arith, ap len (row_before-zero m r), len-empty place_cmp ℕ)
row_before-few m r (suc n) = step (row_before-few m r n) (get m (r, n)) refl
  where
    one_more : len (row_before m r (suc n)) ≡ len (row_before m r (n + 1))
    one_more = ap (λ k. len (row_before m r k)) {x = suc n} {y = n + 1} (omega arith)

    step : len (row_before m r n) ≤ n → (o : Option ℕ) → get m (r, n) ≡ o → len (row_before m r (suc n)) ≤ suc n
    step h None e = omega (arith, one_more, ap len (row_before-skip m r n e), h)
    step h (Some v) e = omega (
      arith,
      one_more,
      row_before-next m r n n v (omega arith) (λ c low high. absurd (omega arith)) e,
      h,
    )

-- before the first column of the one row stands the other row
pub with_none : (a b : Counts) (r : ℕ) → len (ewise_add (row_of a r) (row_before b r 0)) ≡ len (row_of a r)
with_none a b r = ap (λ x. len (ewise_add (row_of a r) x)) (row_before-zero b r)
    ∙ ap len (ewise_add-empty (row_of a r))

-- behind its last column stands the row of the sum
pub with_all : (a b : Counts) (r from : ℕ) → HasNoneFrom b r from →
    len (ewise_add (row_of a r) (row_before b r from)) ≡ len (row_of (ewise_add a b) r)
with_all a b r from none = ap (λ x. len (ewise_add (row_of a r) x)) (row_before-all b r from none)
    ∙ sym (ap len (row_of-ewise_add a b r))

-- beside a row with no column all are new
pub alone_counted : (a b : Counts) (r : ℕ) → len (row_of a r) ≡ 0 →
    len (row_of (ewise_add a b) r) ≡ len (row_of b r)
alone_counted a b r none = ap len (row_of-ewise_add a b r
    ∙ ap (λ x. ewise_add x (row_of b r)) (empty_of_len (row_of a r) none) ∙ empty-ewise_add (row_of b r))

pub none_of_both : (a b : Counts) (r from : ℕ) → HasNoneFrom a r from → HasNoneFrom b r from →
    HasNoneFrom (ewise_add a b) r from
none_of_both a b r from h k = λ c at. get-ewise_add a b (r, c) ∙ ap (λ o. plus o (get b (r, c))) (h c at) ∙ k c at

-- a sum has an entry where one of the two has
pub some_of_sum : (a b : Counts) (q : Place) → is_some (get (ewise_add a b) q) ≡ is_some (get a q) || is_some (get b q)
some_of_sum a b q = ap is_some (get-ewise_add a b q) ∙ both (get a q) (get b q)
  where
    both : (x y : Option ℕ) → is_some (plus x y) ≡ is_some x || is_some y
    both None y = refl
    both (Some x) None = refl
    both (Some x) (Some y) = refl

module _ (a b : Counts) (q : Place) where
  pub none_of_two : false ≡ is_some (get a q) → false ≡ is_some (get b q) →
      is_some (get (ewise_add a b) q) ≡ false
  none_of_two h k = some_of_sum a b q ∙ ap (λ x. x || is_some (get b q)) (sym h) ∙ sym k

  pub some_of_first : true ≡ is_some (get a q) → is_some (get (ewise_add a b) q) ≡ true
  some_of_first h = some_of_sum a b q ∙ ap (λ x. x || is_some (get b q)) (sym h)

  pub some_of_second : true ≡ is_some (get b q) → is_some (get (ewise_add a b) q) ≡ true
  some_of_second k = some_of_sum a b q ∙ ap (λ x. is_some (get a q) || x) (sym k) ∙ or_true (is_some (get a q))
    where
      or_true : (x : Bool) → x || true ≡ true
      or_true true = refl
      or_true false = refl

pub one_at_most : (b : Bool) → cond b 0 1 ≤ 1
one_at_most true = omega arith
one_at_most false = omega arith

-- one matrix more was asked for an entry at a place
pub one_asked : {Z : Type 0} (items : List (Arc Matrix Z)) (i : ℕ) (item : Arc Matrix Z) (q : Place) →
    i < length items → item ≡ get_or items i item → (old new : Bool) →
    old ≡ is_some (get (content (take i (all_counts (values items)))) q) →
    new ≡ old || is_some (get (arc_value item).counts q) →
    new ≡ is_some (get (content (take (i + 1) (all_counts (values items)))) q)
one_asked items i item q h at old new told is =
    is ∙ ap (λ b. b || is_some (get (arc_value item).counts q)) told
    ∙ sym (ap (λ (m : Counts). is_some (get m q)) (sum_more items i item (arc_value item) h at refl)
    ∙ some_of_sum (content (take i (all_counts (values items)))) (arc_value item).counts q)

pub none_asked : (q : Place) → false ≡ is_some (get (empty {X = ℕ} {R = place_cmp}) q)
none_asked q = sym (ap is_some (get-empty place_cmp q))

-- a row has fewer columns than 2^60
pub columns_few : (m : Counts) (rows r n : ℕ) → HasColumns m rows r n → n ≤ 2 ^ 60
columns_few m rows r n h = omega (
  arith,
  h.counted,
  ap len (row_before-all m r (2 ^ 60) h.narrow),
  row_before-few m r (2 ^ 60),
)

-- nothing stands behind all columns
pub none_wide : (m : Counts) (rows cols r from : ℕ) (o : Option Entry) →
    MatchOption o (HasNoneFrom m r from) (IsFirst m r from) → IfSome o (λ e. (r < rows) × (e.col < cols)) →
    from ≡ cols → cols ≤ 2 ^ 60 → HasNoneFrom m r (2 ^ 60)
none_wide m rows cols r from None h k is narrow = λ c at. h c (omega (arith, narrow, at, is))
none_wide m rows cols r from (Some e) h k is narrow = absurd (omega (arith, h.behind, k.1, is))

pub no_columns : (rows r : ℕ) → HasColumns empty rows r 0
no_columns rows r = record {
  counted = sym (ap len (row_of-empty r) ∙ len-empty place_cmp ℕ);
  narrow = λ c at. get-empty place_cmp (r, c);
  outside = λ h. refl;
}

-- behind all layers there is none
pub none_behind : {Z : Type 0} (layers : List (Arc Matrix Z)) (place rows r : ℕ) → place ≡ length layers →
    HasColumns (content (all_counts (values (drop place layers)))) rows r 0
none_behind layers place rows r is = subst (λ l. HasColumns (content (all_counts (values l))) rows r 0)
    (sym (drop_all place layers (omega (arith, is)))) (no_columns rows r)

-- the layers from a place on are the one there and those after it
from_place : {Z : Type 0} (layers : List (Arc Matrix Z)) (p : ℕ) (item : Arc Matrix Z) → p < length layers →
    item ≡ get_or layers p item → drop p layers ≡ item ∷ drop (suc p) layers
from_place [] p item h at = absurd (omega (arith, h))
from_place {Z = Z} (x ∷ layers) zero item h at = ap (λ (y : Arc Matrix Z). y ∷ layers) (sym at)
from_place (x ∷ layers) (suc p) item h at = from_place layers p item (omega (arith, h)) at

module _ {Z : Type 0} (layers : List (Arc Matrix Z)) (p : ℕ) (item : Arc Matrix Z) (x : Matrix) (some : 0 < p)
    (h : p ≤ length layers) (at : item ≡ get_or layers (p - 1) item) (is : x ≡ arc_value item) (rows r : ℕ)
    (same : x.rows ≡ rows) where
  deeper : take (length layers - p) (drop p layers) ≡ drop p layers
  deeper = take_all (length layers - p) (drop p layers) (omega (arith, length-drop p layers))

  -- what the layers after that place have
  pub found_deeper : (n : ℕ) → HasColumns (content (all_counts (values (drop p layers)))) rows r n →
      HasColumns (content (all_counts (values (take (length layers - p) (drop p layers))))) x.rows r n
  found_deeper n found =
      subst (λ k. HasColumns (content (all_counts (values (take (length layers - p) (drop p layers))))) k r n) (sym same)
      (subst (λ l. HasColumns (content (all_counts (values l))) rows r n) (sym deeper) found)

  -- and with the one there
  pub found_there : (n : ℕ) → HasColumns
      (ewise_add x.counts (content (all_counts (values (take (length layers - p) (drop p layers)))))) x.rows r n →
      HasColumns (content (all_counts (values (drop (p - 1) layers)))) rows r n
  found_there n found =
      let one : drop (p - 1) layers ≡ item ∷ drop p layers =
      from_place layers (p - 1) item (omega (arith, some, h)) at
      ∙ ap (λ k. item ∷ drop k layers) {x = suc (p - 1)} {y = p} (omega (arith, some)) in
      subst (λ l. HasColumns (content (all_counts (values l))) rows r n) (sym one)
      (subst (λ k. HasColumns (ewise_add (arc_value item).counts (content (all_counts (values (drop p layers))))) k r n)
      same
      (subst (λ (y : Matrix). HasColumns (ewise_add y.counts (content (all_counts (values (drop p layers))))) x.rows r n)
      is
      (subst (λ l. HasColumns (ewise_add x.counts (content (all_counts (values l)))) x.rows r n) deeper found)))
