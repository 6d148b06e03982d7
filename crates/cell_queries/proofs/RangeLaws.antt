-- What stands in a range of a list in order.
use Rattle.std.proofs.Common.{◌≡◌, ℕ, ◌+◌, ◌<◌, ◌≤◌, Bool, true, false, not, ◌&&◌, cond, leb, T, List}
use Rattle.std.proofs.Common.{[], ◌∷◌, ◌++◌, length, take, refl, sym, ◌∙◌, ap, subst}
use Rattle.std.proofs.Common.{inl, inr, arith}
use Rattle.std.specs.Ordering.{is_lt}
use Rattle.std.specs.FinMap.{is_sorted}
use Rattle.std.proofs.lemmas.Bool.{lt-leb, leb-true, cases_lt, false≢true, and_left, and_right}
use Rattle.std.proofs.lemmas.List.{take-append-le, take_all, append-nil}
use Rattle.hyper_matrix.specs.Counts.{Place, place_cmp}
use Rattle.hyper_matrix.specs.Places.{Less, AllPlaces}
use Rattle.hyper_matrix.proofs.CountLaws.{T_first, T_second}
use Rattle.hyper_matrix.proofs.PlaceOrderLaws.{all_map, to_all, place_less}
use Rattle.cell_queries.specs.declared.range.Span.{Span}
use Rattle.cell_queries.specs.declared.range.CellRange.{CellRange}
use Rattle.hyper_matrix.specs.Search.{is_before, cells_from}
use Rattle.hyper_matrix.proofs.LookUpLaws.{not_before_row, not_before_same}
use Rattle.hyper_matrix.proofs.SkipLaws.{sorted_from, fewer_from}
use Rattle.cell_queries.specs.Ranges.{is_in_span, is_in_range, cells_in, IsLimit, HasNone}

pub behind_span : (s : Span) (n : ℕ) → s.last < n → is_in_span s n ≡ false
behind_span s n h = and_right (leb s.first n) (leb n s.last) (lt-leb n s.last h)

behind_range : (r : CellRange) (e : Place × ℕ) → r.rows.last < e.0.0 → is_in_range r e ≡ false
behind_range r e h = and_left (is_in_span r.rows e.0.0 && is_in_span r.cols e.0.1) (not (is_lt (place_cmp e.0 r.start)))
    (and_left (is_in_span r.rows e.0.0) (is_in_span r.cols e.0.1) (behind_span r.rows e.0.0 h))

none_past : (r : CellRange) (es : List (Place × ℕ)) → AllPlaces (λ p. r.rows.last < p.0) es → cells_in r es ≡ []
none_past r [] h = refl
none_past r (e ∷ es) h = ap (λ b. cond b (e ∷ cells_in r es) (cells_in r es)) (behind_range r e h.0) ∙
    none_past r es h.1

-- nothing stands in a range from a cell behind its last row on
pub none_behind : (r : CellRange) (e : Place × ℕ) (es : List (Place × ℕ)) → T (is_sorted place_cmp (e ∷ es)) →
    r.rows.last < e.0.0 → cells_in r (e ∷ es) ≡ []
none_behind r e es sorted h = none_past r (e ∷ es) (
  h,
  all_map (Less e.0) (λ p. r.rows.last < p.0) further es (to_all e.0 es (T_first _ _ sorted)),
)
  where
    further : (p : Place) → Less e.0 p → r.rows.last < p.0
    further p less = elim (place_less e.0 p less) [ inl a ↦ omega arith | inr b ↦ omega (arith, b.0) ]

pub sorted_rest : (es fs : List (Place × ℕ)) (e : Place × ℕ) → es ≡ e ∷ fs → T (is_sorted place_cmp es) →
    T (is_sorted place_cmp fs)
sorted_rest es fs e is h = T_second _ _ (subst (λ (xs : List (Place × ℕ)). T (is_sorted place_cmp xs)) is h)

-- a cell that is in the range, and one that isn't
pub first_in : (r : CellRange) (e : Place × ℕ) (es : List (Place × ℕ)) → is_in_range r e ≡ true →
    cells_in r (e ∷ es) ≡ e ∷ cells_in r es
first_in r e es h = ap (λ b. cond b (e ∷ cells_in r es) (cells_in r es)) h

pub first_out : (r : CellRange) (e : Place × ℕ) (es : List (Place × ℕ)) → is_in_range r e ≡ false →
    cells_in r (e ∷ es) ≡ cells_in r es
first_out r e es h = ap (λ b. cond b (e ∷ cells_in r es) (cells_in r es)) h

no_more : (xs ys : List (Place × ℕ)) → length ys ≡ 0 → xs ++ ys ≡ xs
no_more xs [] h = append-nil xs
no_more xs (y ∷ ys) h = absurd (omega arith)

-- a page that has all there is, and one that is full
pub page_ends : (most : ℕ) (page rest all : List (Place × ℕ)) → page ++ rest ≡ all → length rest ≡ 0 →
    length page ≤ most → page ≡ take most all
page_ends most page rest all is none fits =
    sym (take_all most page fits) ∙ ap (take most) (sym (no_more page rest none) ∙ is)

pub page_full : (most : ℕ) (page rest all : List (Place × ℕ)) → page ++ rest ≡ all → length page ≡ most →
    page ≡ take most all
page_full most page rest all is full =
    sym (take_all most page (omega (arith, full))) ∙ sym (take-append-le most page rest (omega (arith, full)))
    ∙ ap (take most) is

-- nothing is left of a range where a cell behind its last row comes
pub ends_behind : (r : CellRange) (es rest all : List (Place × ℕ)) (e : Place × ℕ) → es ≡ e ∷ rest →
    T (is_sorted place_cmp es) → r.rows.last < e.0.0 → cells_in r es ≡ all → length all ≡ 0
ends_behind r es rest all e is sorted less same = ap length (sym same ∙ ap (cells_in r) is
    ∙ none_behind r e rest (subst (λ (xs : List (Place × ℕ)). T (is_sorted place_cmp xs)) is sorted) less)

-- a place in no row and no column below these isn't before theirs
not_before_corner : (r c : ℕ) (p : Place) → r ≤ p.0 → c ≤ p.1 → is_before p (r, c) ≡ false
not_before_corner r c p rows cols = elim (cases_lt r p.0) [
  | inl less ↦ not_before_row p.0 p.1 r c less
  | inr le ↦
      let same : p.0 ≡ r = omega arith in
      subst (λ (n : ℕ). is_before (n, p.1) (r, c) ≡ false) (sym same) (not_before_same r p.1 c cols)
]

both_left : (a b : Bool) → (a && b) ≡ true → a ≡ true
both_left true b h = refl
both_left false b h = absurd (false≢true h)

both_right : (a b : Bool) → (a && b) ≡ true → b ≡ true
both_right true b h = h
both_right false b h = absurd (false≢true h)

not_true : (b : Bool) → not b ≡ true → b ≡ false
not_true true h = absurd (false≢true h)
not_true false h = refl

-- what a cell in a range is
record Stands (r : CellRange) (p : Place) : Type 0 where
  pub row_from : r.rows.first ≤ p.0
  pub row_to : p.0 ≤ r.rows.last
  pub col_from : r.cols.first ≤ p.1
  pub col_to : p.1 ≤ r.cols.last
  pub behind : is_before p r.start ≡ false

stands : (r : CellRange) (e : Place × ℕ) → is_in_range r e ≡ true → Stands r e.0
stands r e h =
    let inside = both_left (is_in_span r.rows e.0.0 && is_in_span r.cols e.0.1) (not (is_lt (place_cmp e.0 r.start)))
    h in
    let rows = both_left (is_in_span r.rows e.0.0) (is_in_span r.cols e.0.1) inside in
    let cols = both_right (is_in_span r.rows e.0.0) (is_in_span r.cols e.0.1) inside in
    record {
      row_from = leb-true r.rows.first e.0.0 (both_left (leb r.rows.first e.0.0) (leb e.0.0 r.rows.last) rows);
      row_to = leb-true e.0.0 r.rows.last (both_right (leb r.rows.first e.0.0) (leb e.0.0 r.rows.last) rows);
      col_from = leb-true r.cols.first e.0.1 (both_left (leb r.cols.first e.0.1) (leb e.0.1 r.cols.last) cols);
      col_to = leb-true e.0.1 r.cols.last (both_right (leb r.cols.first e.0.1) (leb e.0.1 r.cols.last) cols);
      behind = not_true (is_lt (place_cmp e.0 r.start)) (both_right (is_in_span r.rows e.0.0 && is_in_span r.cols e.0.1)
          (not (is_lt (place_cmp e.0 r.start))) h);
    }

-- where a range can begin
pub limit_start : (r : CellRange) → IsLimit r r.start (λ p. Unit {0})
limit_start r e q h = (stands r e h).behind

pub limit_corner : (r : CellRange) → IsLimit r (r.rows.first, r.cols.first) (λ p. Unit {0})
limit_corner r e q h = let s = stands r e h in
    not_before_corner r.rows.first r.cols.first e.0 s.row_from s.col_from

-- where it can go on behind a cell
pub limit_row : (r : CellRange) (p : Place) → IsLimit r (p.0, r.cols.first) (Less p)
limit_row r p e less h =
    let s = stands r e h in
    let le : p.0 ≤ e.0.0 = elim (place_less p e.0 less) [ inl a ↦ omega arith | inr b ↦ omega (arith, b.0) ] in
    not_before_corner p.0 r.cols.first e.0 le s.col_from

row_above : (r : CellRange) (p : Place) (e : Place × ℕ) → r.cols.last < p.1 → Less p e.0 → Stands r e.0 →
    p.0 + 1 ≤ e.0.0
row_above r p e past less s = elim (place_less p e.0 less) [
  | inl a ↦ omega arith
  | inr b ↦ absurd (omega (arith, b.1, s.col_to))
]

pub limit_next_row : (r : CellRange) (p : Place) (n : ℕ) → r.cols.last < p.1 → n ≡ p.0 + 1 →
    IsLimit r (n, r.cols.first) (Less p)
limit_next_row r p n past is e less h =
    let s = stands r e h in
    let above = row_above r p e past less s in
    not_before_corner n r.cols.first e.0 (omega (arith, above)) s.col_from

pub none_above : (r : CellRange) (p : Place) → r.cols.last < p.1 → r.rows.last ≤ p.0 → HasNone r (Less p)
none_above r p past over e less = turn (is_in_range r e) refl
  where
    turn : (b : Bool) → is_in_range r e ≡ b → b ≡ false
    turn false h = refl
    turn true h =
        let s = stands r e h in
        absurd (omega (arith, row_above r p e past less s, s.row_to))

-- what a skip to a place leaves of a range that has none before it
pub in_skipped : (r : CellRange) (p : Place) (Q : Place → Type 0) (es : List (Place × ℕ)) → IsLimit r p Q →
    AllPlaces Q es → cells_in r (cells_from p es) ≡ cells_in r es
in_skipped r p Q [] limit all = refl
in_skipped r p Q (x ∷ es) limit all = elim (is_before x.0 p) as
    (λ t. is_before x.0 p ≡ t → cells_in r (cells_from p (x ∷ es)) ≡ cells_in r (x ∷ es)) [
      | true ↦ λ b.
          ap (λ t. cells_in r (cond (not t) (x ∷ cells_from p es) (cells_from p es))) b
          ∙ in_skipped r p Q es limit all.1 ∙ sym (first_out r x es (outside b (is_in_range r x) refl))
      | false ↦ λ b.
          ap (λ t. cells_in r (cond (not t) (x ∷ cells_from p es) (cells_from p es))) b
          ∙ ap (λ (l : List (Place × ℕ)). cond (is_in_range r x) (x ∷ l) l) (in_skipped r p Q es limit all.1)
    ] refl
  where
    outside : is_before x.0 p ≡ true → (t : Bool) → is_in_range r x ≡ t → is_in_range r x ≡ false
    outside b false h = h
    outside b true h = absurd (false≢true (sym (limit x all.0 h) ∙ b))

pub none_of : (r : CellRange) (Q : Place → Type 0) (es : List (Place × ℕ)) → HasNone r Q → AllPlaces Q es →
    cells_in r es ≡ []
none_of r Q [] none all = refl
none_of r Q (x ∷ es) none all = first_out r x es (none x all.0) ∙ none_of r Q es none all.1

-- all places, and those behind the first of a list in order
pub each_place : (es : List (Place × ℕ)) → AllPlaces (λ p. Unit {0}) es
each_place [] = tt
each_place (x ∷ es) = (tt, each_place es)

pub all_behind : (e : Place × ℕ) (es left : List (Place × ℕ)) → left ≡ e ∷ es → T (is_sorted place_cmp left) →
    AllPlaces (Less e.0) es
all_behind e es left is sorted = to_all e.0 es
    (T_first _ _ (subst (λ (l : List (Place × ℕ)). T (is_sorted place_cmp l)) is sorted))

-- nothing is left of a range behind a cell outside of it
pub ends_outside : (r : CellRange) (es rest all : List (Place × ℕ)) (e : Place × ℕ) → es ≡ e ∷ rest →
    T (is_sorted place_cmp es) → HasNone r (Less e.0) → is_in_range r e ≡ false → cells_in r es ≡ all → length all ≡ 0
ends_outside r es rest all e is sorted none outside same = ap length (sym same ∙ ap (cells_in r) is
    ∙ first_out r e rest outside ∙ none_of r (Less e.0) rest none (all_behind e rest es is sorted))

-- a skip behind a cell outside of a range
pub skipped_behind : (r : CellRange) (p : Place) (es rest new all : List (Place × ℕ)) (e : Place × ℕ) → es ≡ e ∷ rest →
    T (is_sorted place_cmp es) → IsLimit r p (Less e.0) → is_in_range r e ≡ false → cells_in r es ≡ all →
    new ≡ cells_from p rest → T (is_sorted place_cmp new) × (cells_in r new ≡ all)
skipped_behind r p es rest new all e is sorted limit outside same skip = (
  subst (λ (l : List (Place × ℕ)). T (is_sorted place_cmp l)) (sym skip)
      (sorted_from p rest (sorted_rest es rest e is sorted)),
  ap (cells_in r) skip ∙ in_skipped r p (Less e.0) rest limit (all_behind e rest es is sorted)
      ∙ sym (ap (cells_in r) is ∙ first_out r e rest outside) ∙ same,
)

pub skipped_fewer : (p : Place) (es rest new : List (Place × ℕ)) (e : Place × ℕ) → es ≡ e ∷ rest →
    new ≡ cells_from p rest → length new < length es
skipped_fewer p es rest new e is skip = omega (arith, ap length is, ap length skip, fewer_from p rest)

-- a skip to where a range can begin
pub skipped_first : (r : CellRange) (p : Place) (es new : List (Place × ℕ)) → T (is_sorted place_cmp es) →
    IsLimit r p (λ q. Unit {0}) → new ≡ cells_from p es →
    T (is_sorted place_cmp new) × (cells_in r new ≡ cells_in r es)
skipped_first r p es new sorted limit skip = (
  subst (λ (l : List (Place × ℕ)). T (is_sorted place_cmp l)) (sym skip) (sorted_from p es sorted),
  ap (cells_in r) skip ∙ in_skipped r p (λ q. Unit {0}) es limit (each_place es),
)
