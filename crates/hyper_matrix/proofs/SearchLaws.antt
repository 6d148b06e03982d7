-- Look-ups in a list of cells in order, and what they say of the map that the list builds.
use Rattle.std.proofs.Common.{◌≡◌, ℕ, zero, suc, ◌+◌, ◌-◌, ◌<◌, ◌≤◌, ◌⊎◌, Bool, true, false, not, cond, T, List, []}
use Rattle.std.proofs.Common.{◌∷◌, ◌++◌, length, get_or, take, drop, map, Some, None, Ordering, sym, ◌∙◌, ap}
use Rattle.std.proofs.Common.{subst, refl, inl, inr, arith, length-drop}
use Rattle.std.specs.List.{slice_get}
use Rattle.std.specs.Ordering.{is_eq, eq_by_cmp}
use Rattle.std.specs.FinMap.{find, get, is_sorted}
use Rattle.std.specs.FinMap.Entries.{below_all}
use Rattle.std.proofs.lemmas.Bool.{cases_lt, eq-eqb, false≢true}
use Rattle.std.proofs.lemmas.List.{take-append-drop, take_all, take_more, drop_more, drop_all, drop-map, take-map}
use Rattle.std.proofs.lemmas.List.{length-map, map-append}
use Rattle.std.proofs.lemmas.Cmp.{tied_itself}
use Rattle.std.proofs.lemmas.Option.{none-some, same_Some}
use Rattle.cells.specs.Order.{Rise}
use Rattle.cells.specs.declared.cell.Cell.{Cell}
use Rattle.hyper_matrix.specs.Counts.{Place, place_cmp, count_sum, built}
use Rattle.hyper_matrix.specs.Cells.{entry_of, cell_total}
use Rattle.hyper_matrix.specs.Search.{is_before, first_from, cells_from, row_cells, TurnsAt, IsRowSum}
use Rattle.hyper_matrix.specs.Places.{place_at}
use Rattle.hyper_matrix.specs.RowOf.{IsFirst, HasNoneFrom}
use Rattle.hyper_matrix.proofs.PlaceOrderLaws.{not_below, sorted_front, sorted_back, sorted_rising, rises}
use Rattle.hyper_matrix.proofs.BuiltOfLaws.{entries_total}
use Rattle.hyper_matrix.proofs.CountLaws.{places_total, exact_places, get-built, gathered-rising, T_first, T_second, T_both}
use Rattle.hyper_matrix.proofs.CountLaws.{find_below}
use Rattle.hyper_matrix.proofs.LookUpLaws.{AllBefore, EndsIn, ends_before, before_trans, before_is, before_row, before_col}
use Rattle.hyper_matrix.proofs.LookUpLaws.{not_before_same, as_true, as_T, none_before, none_behind, counted_none}
use Rattle.hyper_matrix.proofs.LookUpLaws.{counted_more, counted_le, counted_all}
use Rattle.hyper_matrix.proofs.SkipLaws.{AllFrom, follows_none, none_from, begins_from}

pub is_equal : (r : Ordering) → is_eq r ≡ true → r ≡ Ordering.Equal
is_equal Ordering.Less e = absurd (false≢true e)
is_equal Ordering.Equal e = refl
is_equal Ordering.Greater e = absurd (false≢true e)

-- a cell that comes before a place doesn't stand there
pub before_other : (p q : Place) → is_before p q ≡ true → eq_by_cmp place_cmp q p ≡ false
before_other p q b = turn (eq_by_cmp place_cmp q p) refl
  where
    turn : (t : Bool) → eq_by_cmp place_cmp q p ≡ t → t ≡ false
    turn false e = refl
    turn true e = absurd (false≢true (sym (not_before_same p.0 p.1 p.1 (omega arith)) ∙
        subst (λ (r : Place). is_before p r ≡ true) (exact_places q p (is_equal _ e)) b))

find_past : (q : Place) (e : Place × ℕ) (es : List (Place × ℕ)) → is_before e.0 q ≡ true →
    find place_cmp q (e ∷ es) ≡ find place_cmp q es
find_past q e es b = ap (λ t. cond t (Some e.1) (find place_cmp q es)) (before_other e.0 q b)

-- what comes before a place comes before what is not before that place
pub before_until : (x q p : Place) → is_before x q ≡ true → is_before p q ≡ false → is_before x p ≡ true
before_until x q p a b = elim (before_is x q a) [
  | inl less ↦ elim (not_below q p b) [
    | inl h ↦ before_row x.0 x.1 p.0 p.1 (omega arith)
    | inr h ↦
        before_row x.0 x.1 p.0 p.1 (omega arith)
  ]
  | inr same ↦ elim (not_below q p b) [
    | inl h ↦ before_row x.0 x.1 p.0 p.1 (omega arith)
    | inr h ↦ subst (λ (r : ℕ). is_before x (r, p.1) ≡ true) (same.0 ∙ h.0) (before_col x.0 x.1 p.1 (omega arith))
  ]
]

-- a place before a cell from which the cells rise
find_ahead : (q : Place) (e : Place × ℕ) (es : List (Place × ℕ)) → T (is_sorted place_cmp (e ∷ es)) →
    is_before q e.0 ≡ true → find place_cmp q (e ∷ es) ≡ None
find_ahead q e es sorted b = find_below q (e ∷ es) (T_both _ _ (as_T _ b) (through es (T_first _ _ sorted)))
  where
    through : (fs : List (Place × ℕ)) → T (below_all place_cmp e.0 fs) → T (below_all place_cmp q fs)
    through [] h = tt
    through (f ∷ fs) h = T_both _ _ (as_T _ (before_trans q e.0 f.0 b (as_true _ (T_first _ _ h))))
        (through fs (T_second _ _ h))

-- from a place on, up to the first cell there, no place is found
pub find_between : (q p : Place) (es : List (Place × ℕ)) → T (is_sorted place_cmp es) → is_before p q ≡ false →
    ((e : Place × ℕ) → first_from q es ≡ Some e → is_before p e.0 ≡ true) → find place_cmp p es ≡ None
find_between q p [] sorted from to = refl
find_between q p (e ∷ es) sorted from to = elim (is_before e.0 q) as
    (λ t. is_before e.0 q ≡ t → find place_cmp p (e ∷ es) ≡ None) [
      | true ↦ λ b. find_past p e es (before_until e.0 q p b from) ∙
          find_between q p es (T_second _ _ sorted) from
          (λ f is. to f (ap (λ s. cond s (first_from q es) (Some e)) b ∙ is))
      | false ↦ λ b. find_ahead p e es sorted (to e (ap (λ s. cond s (first_from q es) (Some e)) b))
    ] refl

-- a place that is not before another, and is another, has that before it
other_behind : (q p : Place) → is_before p q ≡ false → (p ≡ q → ⊥) → is_before q p ≡ true
other_behind q p b n = elim (not_below q p b) [
  | inl h ↦ before_row q.0 q.1 p.0 p.1 h
  | inr h ↦ elim (cases_lt q.1 p.1) [
    | inl less ↦ subst (λ (r : ℕ). is_before q (r, p.1) ≡ true) h.0 (before_col q.0 q.1 p.1 less)
    | inr le ↦ absurd (n (λ k. (sym h.0 k, same_col h.1 le k)))
  ]
]
  where
    same_col : q.1 ≤ p.1 → p.1 ≤ q.1 → p.1 ≡ q.1
    same_col a c = omega arith

-- the first cell from a place on isn't before it
pub first_behind : (q : Place) (es : List (Place × ℕ)) (e : Place × ℕ) → first_from q es ≡ Some e →
    is_before e.0 q ≡ false
first_behind q [] e is = absurd (none-some _ is)
first_behind q (x ∷ es) e is = elim (is_before x.0 q) as (λ t. is_before x.0 q ≡ t → is_before e.0 q ≡ false) [
  | true ↦ λ b. first_behind q es e (sym (ap (λ s. cond s (first_from q es) (Some x)) b) ∙ is)
  | false ↦ λ b. subst (λ (f : Place × ℕ). is_before f.0 q ≡ false)
      (same_Some _ _ (sym (ap (λ s. cond s (first_from q es) (Some x)) b) ∙ is)) b
] refl

-- and is found at its place
pub find_at : (q p : Place) (es : List (Place × ℕ)) (n : ℕ) → first_from q es ≡ Some (p, n) →
    find place_cmp p es ≡ Some n
find_at q p [] n is = absurd (none-some _ is)
find_at q p (e ∷ es) n is = elim (is_before e.0 q) as (λ t. is_before e.0 q ≡ t → find place_cmp p (e ∷ es) ≡ Some n) [
  | true ↦ λ b.
      let later : first_from q es ≡ Some (p, n) = sym (ap (λ s. cond s (first_from q es) (Some e)) b) ∙ is in
      find_past p e es (before_until e.0 q p b (first_behind q es (p, n) later)) ∙ find_at q p es n later
  | false ↦ λ b.
      let here : e ≡ (p, n) = same_Some _ _ (sym (ap (λ s. cond s (first_from q es) (Some e)) b) ∙ is) in
      ap (λ (f : Place × ℕ). find place_cmp p (f ∷ es)) here ∙
      ap (λ t. cond t (Some n) (find place_cmp p es)) (ap is_eq (tied_itself places_total p))
] refl

-- the first cell from a place on, if it stands elsewhere, leaves nothing there
pub find_missed : (q : Place) (es : List (Place × ℕ)) (e : Place × ℕ) → T (is_sorted place_cmp es) →
    first_from q es ≡ Some e → (e.0 ≡ q → ⊥) → find place_cmp q es ≡ None
find_missed q [] e sorted is n = refl
find_missed q (x ∷ es) e sorted is n = elim (is_before x.0 q) as
    (λ t. is_before x.0 q ≡ t → find place_cmp q (x ∷ es) ≡ None) [
      | true ↦ λ b. find_past q x es b ∙ find_missed q es e (T_second _ _ sorted)
          (sym (ap (λ s. cond s (first_from q es) (Some x)) b) ∙ is) n
      | false ↦ λ b.
          let here : x ≡ e = same_Some _ _ (sym (ap (λ s. cond s (first_from q es) (Some x)) b) ∙ is) in
          find_ahead q x es sorted (other_behind q x.0 b (λ same. n (ap (λ (f : Place × ℕ). f.0) (sym here) ∙ same)))
    ] refl

-- nothing at a place or behind it
pub find_none : (q : Place) (es : List (Place × ℕ)) → T (is_sorted place_cmp es) → first_from q es ≡ None →
    (p : Place) → is_before p q ≡ false → find place_cmp p es ≡ None
find_none q es sorted none p b = find_between q p es sorted b (λ e is. absurd (none-some _ (sym none ∙ is)))

pub not_before_self : (q : Place) → is_before q q ≡ false
not_before_self q = not_before_same q.0 q.1 q.1 (omega arith)

module _ (es : List (Place × ℕ)) (sorted : T (is_sorted place_cmp es)) where
  pub held : (q : Place) → get (built es) q ≡ find place_cmp q es
  held q = get-built es q ∙ gathered-rising q es sorted

  -- what a look-up of a place answers
  pub get_here : (r c row col n : ℕ) → Some ((row, col), n) ≡ first_from (r, c) es → row ≡ r → col ≡ c →
      Some n ≡ get (built es) (r, c)
  get_here r c row col n is is_row is_col = sym (held (r, c) ∙
      find_at (r, c) (r, c) es n (sym is ∙ (λ k. Some ((is_row k, is_col k), n))))

  pub get_other : (r c row col n : ℕ) → Some ((row, col), n) ≡ first_from (r, c) es → ((row ≡ r → ⊥) ⊎ (col ≡ c → ⊥)) →
      None ≡ get (built es) (r, c)
  get_other r c row col n is other = sym (held (r, c) ∙ find_missed (r, c) es ((row, col), n) sorted (sym is)
      (λ same. elim other [ inl h ↦ h (ap (λ (p : Place). p.0) same) | inr h ↦ h (ap (λ (p : Place). p.1) same) ]))

  pub get_none : (r c : ℕ) → None ≡ first_from (r, c) es → None ≡ get (built es) (r, c)
  get_none r c none = sym (held (r, c) ∙ find_none (r, c) es sorted (sym none) (r, c) (not_before_self (r, c)))

  -- and of a row from a column on
  pub first_here : (r from row col n : ℕ) → Some ((row, col), n) ≡ first_from (r, from) es → row ≡ r →
      IsFirst (built es) r from (record { col = col; count = n })
  first_here r from row col n is is_row =
      let here : first_from (r, from) es ≡ Some ((r, col), n) = sym is ∙ (λ k. Some ((is_row k, col), n)) in
      record {
        behind = behind here;
        stands = held (r, col) ∙ find_at (r, from) (r, col) es n here;
        first = λ c low high. held (r, c) ∙ find_between (r, from) (r, c) es sorted (not_before_same r c from low)
            (λ e at. subst (λ (f : Place × ℕ). is_before (r, c) f.0 ≡ true) (same_Some _ _ (sym here ∙ at))
            (before_col r c col high));
      }
    where
      behind : first_from (r, from) es ≡ Some ((r, col), n) → from ≤ col
      behind here = elim (not_below (r, from) (r, col) (first_behind (r, from) es ((r, col), n) here)) [
        | inl h ↦
            absurd (omega arith)
        | inr h ↦ h.1
      ]

  pub none_here : (r from row col n : ℕ) → Some ((row, col), n) ≡ first_from (r, from) es → (row ≡ r → ⊥) →
      HasNoneFrom (built es) r from
  none_here r from row col n is other =
      let less : r < row = elim (not_below (r, from) (row, col)
      (first_behind (r, from) es ((row, col), n) (sym is))) [ inl h ↦ h | inr h ↦ absurd (other (sym h.0)) ] in
      λ c low. held (r, c) ∙ find_between (r, from) (r, c) es sorted (not_before_same r c from low)
      (λ e at. subst (λ (f : Place × ℕ). is_before (r, c) f.0 ≡ true) (same_Some _ _ (is ∙ at))
      (before_row r c row col less))

  pub none_at_all : (r from : ℕ) → None ≡ first_from (r, from) es → HasNoneFrom (built es) r from
  none_at_all r from none = λ c low. held (r, c) ∙ find_none (r, from) es sorted (sym none) (r, c)
      (not_before_same r c from low)

-- cells of a list in order where those before a place end
before_turn : (es : List (Place × ℕ)) (q : Place) → T (is_sorted place_cmp es) → (n : ℕ) →
    (0 < n → is_before (place_at es (n - 1)) q ≡ true) → n ≤ length es → AllBefore q (take n es)
before_turn es q sorted zero turn within = tt
before_turn es q sorted (suc k) turn within =
    let e = get_or es k ((0, 0), 0) in
    let split : take (suc k) es ≡ take k es ++ e ∷ [] =
    ap (λ m. take m es) {x = suc k} {y = k + 1} (omega arith) ∙ take_more es k ((0, 0), 0) (omega arith) in
    let ends : EndsIn (take (suc k) es) e.0 = record { front = take k es; count = e.1; is = split } in
    ends_before (take (suc k) es) e.0 q ends (sorted_front (take (suc k) es) (drop (suc k) es)
    (subst (λ (l : List (Place × ℕ)). T (is_sorted place_cmp l)) (sym (take-append-drop (suc k) es)) sorted))
    (ap (λ m. is_before (place_at es m) q) {x = k} {y = suc k - 1} (omega arith) ∙ turn (omega arith))

list_skipped : (es : List (Place × ℕ)) (q : Place) (n : ℕ) → T (is_sorted place_cmp es) →
    TurnsAt (λ k. is_before (place_at es k) q) (length es) n → drop n es ≡ cells_from q es
list_skipped es q n sorted t =
    let whole : es ≡ take n es ++ drop n es = sym (take-append-drop n es) in
    sym (ap (cells_from q) whole ∙ follows_none q (take n es) (drop n es)
    (none_from q (take n es) (before_turn es q sorted n t.before t.within)) ∙ elim (cases_lt n (length es)) [
      | inl lt ↦
          let e = get_or es n ((0, 0), 0) in
          let first : drop n es ≡ e ∷ drop (n + 1) es = drop_more es n ((0, 0), 0) lt in
          ap (cells_from q) first ∙ begins_from q e (drop (n + 1) es)
          (subst (λ (l : List (Place × ℕ)). T (is_sorted place_cmp l)) first (sorted_back (take n es) (drop n es)
          (subst (λ (l : List (Place × ℕ)). T (is_sorted place_cmp l)) whole sorted))) (t.behind lt) ∙ sym first
      | inr le ↦ ap (cells_from q) (drop_all n es le) ∙ sym (drop_all n es le)
    ])

-- the first cell from a place on is the first of all from there on
first_kept : (q : Place) (es : List (Place × ℕ)) → first_from q es ≡ slice_get (cells_from q es) 0
first_kept q [] = refl
first_kept q (e ∷ es) = step (is_before e.0 q) (first_kept q es)
  where
    step : (b : Bool) → first_from q es ≡ slice_get (cells_from q es) 0 →
        cond b (first_from q es) (Some e) ≡ slice_get (cond (not b) (e ∷ cells_from q es) (cells_from q es)) 0
    step true rest = rest
    step false rest = refl

-- where a list's cells stop to come before a place
module _ (cells : List Cell) (q : Place) (n : ℕ) (rises : Rise cells)
    (t : TurnsAt (λ k. is_before (place_at (map entry_of cells) k) q) (length cells) n) where
  turn : TurnsAt (λ k. is_before (place_at (map entry_of cells) k) q) (length (map entry_of cells)) n
  turn = subst (λ m. TurnsAt (λ k. is_before (place_at (map entry_of cells) k) q) m n)
      (sym (length-map cells entry_of)) t

  pub cells_skipped : map entry_of (drop n cells) ≡ cells_from q (map entry_of cells)
  cells_skipped = sym (drop-map entry_of n cells) ∙ list_skipped (map entry_of cells) q n (sorted_rising cells rises) turn

  pub cells_before : AllBefore q (map entry_of (take n cells))
  cells_before = subst (AllBefore q) (take-map entry_of n cells)
      (before_turn (map entry_of cells) q (sorted_rising cells rises) n turn.before turn.within)

  -- the first cell at the place or behind it
  pub first_told : (d : Cell) → n < length cells → Some (entry_of (get_or cells n d)) ≡ first_from q (map entry_of cells)
  first_told d h =
      ap (λ (cs : List Cell). slice_get (map entry_of cs) 0) (sym (drop_more cells n d h))
      ∙ ap (λ (es : List (Place × ℕ)). slice_get es 0) cells_skipped ∙ sym (first_kept q (map entry_of cells))

  pub none_told : length cells ≤ n → None ≡ first_from q (map entry_of cells)
  none_told h =
      ap (λ (cs : List Cell). slice_get (map entry_of cs) 0) (sym (drop_all n cells h))
      ∙ ap (λ (es : List (Place × ℕ)). slice_get es 0) cells_skipped ∙ sym (first_kept q (map entry_of cells))

-- the sum of a row over the cells of a list

all_kept : (q : Place) (es : List (Place × ℕ)) → AllFrom q (cells_from q es)
all_kept q [] = tt
all_kept q (e ∷ es) = step (is_before e.0 q) refl (all_kept q es)
  where
    step : (b : Bool) → is_before e.0 q ≡ b → AllFrom q (cells_from q es) →
        AllFrom q (cond (not b) (e ∷ cells_from q es) (cells_from q es))
    step true is rest = rest
    step false is rest = (is, rest)

-- of the first i cells those in the row are counted, and the others are at the row's begin or behind it
pub record RowSoFar (r : ℕ) (cells : List Cell) (i entries total : ℕ) : Type 0 where
  pub within : i ≤ length cells
  pub summed : IsRowSum r (map entry_of (take i cells)) entries total
  pub left : AllFrom (r, 0) (map entry_of (drop i cells))

module _ (r : ℕ) (cells : List Cell) (rises : Rise cells) where
  split : (i : ℕ) → map entry_of cells ≡ map entry_of (take i cells) ++ map entry_of (drop i cells)
  split i = ap (map entry_of) (sym (take-append-drop i cells)) ∙ map-append entry_of (take i cells) (drop i cells)

  sorted_left : (i : ℕ) → T (is_sorted place_cmp (map entry_of (drop i cells)))
  sorted_left i = sorted_back (map entry_of (take i cells)) (map entry_of (drop i cells))
      (subst (λ (l : List (Place × ℕ)). T (is_sorted place_cmp l)) (split i) (sorted_rising cells rises))

  pub row_begins : (n : ℕ) → TurnsAt (λ k. is_before (place_at (map entry_of cells) k) (r, 0)) (length cells) n →
      RowSoFar r cells n 0 0
  row_begins n t = record {
    within = t.within;
    summed = counted_none r (map entry_of (take n cells)) (none_before r _ (cells_before cells (r, 0) n rises t));
    left = subst (AllFrom (r, 0)) (sym (cells_skipped cells (r, 0) n rises t)) (all_kept (r, 0) (map entry_of cells));
  }

  module _ (i entries total : ℕ) (so_far : RowSoFar r cells i entries total) where
    -- no cell is left, or the next is in another row
    pub row_ends : length cells ≤ i → IsRowSum r (map entry_of cells) entries total
    row_ends le = subst (λ (cs : List Cell). IsRowSum r (map entry_of cs) entries total) (take_all i cells le)
        so_far.summed

    module _ (d : Cell) (lt : i < length cells) where
      abbrev cell : Cell
      cell = get_or cells i d

      more : drop i cells ≡ cell ∷ drop (i + 1) cells
      more = drop_more cells i d lt

      head_from : is_before (cell.row, cell.col) (r, 0) ≡ false
      head_from = (subst (λ (cs : List Cell). AllFrom (r, 0) (map entry_of cs)) more so_far.left).0

      pub row_left : (cell.row ≡ r → ⊥) → IsRowSum r (map entry_of cells) entries total
      row_left other =
          let above : r < cell.row = elim (not_below (r, 0) (cell.row, cell.col) head_from) [
            | inl h ↦ h
            | inr h ↦ absurd (other (sym h.0))
          ] in
          let none : row_cells r (map entry_of (drop i cells)) ≡ [] =
          ap (λ (cs : List Cell). row_cells r (map entry_of cs)) more
          ∙ none_behind r (entry_of cell) (map entry_of (drop (i + 1) cells))
          (subst (λ (cs : List Cell). T (is_sorted place_cmp (map entry_of cs))) more (sorted_left i)) above in
          subst (λ (es : List (Place × ℕ)). IsRowSum r es entries total) (sym (split i))
          (counted_all r (map entry_of (take i cells)) (map entry_of (drop i cells)) entries total so_far.summed none)

      one : cell.row ≡ r → IsRowSum r (entry_of cell ∷ []) 1 cell.count
      one same =
          let here : row_cells r (entry_of cell ∷ []) ≡ entry_of cell ∷ [] =
          ap (λ b. cond b (entry_of cell ∷ []) []) (eq-eqb cell.row r same) in
          record { counted = sym (ap length here); summed = omega (arith, ap count_sum here) }

      pub row_goes_on : cell.row ≡ r → RowSoFar r cells (i + 1) (entries + 1) (total + cell.count)
      row_goes_on same = record {
        within = omega arith;
        summed = subst (λ (es : List (Place × ℕ)). IsRowSum r es (entries + 1) (total + cell.count))
            (sym (ap (map entry_of) (take_more cells i d lt) ∙ map-append entry_of (take i cells) (cell ∷ [])))
            (counted_more r (map entry_of (take i cells)) (entry_of cell ∷ []) entries total 1 cell.count so_far.summed
            (one same));
        left = (subst (λ (cs : List Cell). AllFrom (r, 0) (map entry_of cs)) more so_far.left).1;
      }

      -- the count and the sum stay within those of the list
      pub row_fits : cell.row ≡ r → (entries + 1 ≤ length cells) × (total + cell.count ≤ cell_total cells)
      row_fits same =
          let le = counted_le r (map entry_of (take (i + 1) cells)) (map entry_of (drop (i + 1) cells)) (entries + 1)
          (total + cell.count) (row_goes_on same).summed in (
            omega (arith, le.0, ap length (split (i + 1)), length-map cells entry_of),
            omega (arith, le.1, ap count_sum (split (i + 1)), entries_total cells),
          )

-- what is left of a list behind those that were passed over
pub listed_skipped : (cells : List Cell) (left : List (Place × ℕ)) (q : Place) (n : ℕ) → map entry_of cells ≡ left →
    T (is_sorted place_cmp left) →
    TurnsAt (λ k. is_before (place_at (map entry_of cells) k) q) (length cells) n →
    map entry_of (take (length cells - n) (drop n cells)) ≡ cells_from q left
listed_skipped cells left q n told sorted t =
    let in_order : Rise cells = rises cells (subst (λ (l : List (Place × ℕ)). T (is_sorted place_cmp l)) (sym told)
    sorted) in
    ap (map entry_of) (take_all (length cells - n) (drop n cells) (omega (arith, length-drop n cells)))
    ∙ cells_skipped cells q n in_order t ∙ ap (cells_from q) told
