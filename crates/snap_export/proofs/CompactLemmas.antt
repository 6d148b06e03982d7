-- A list of cells in order with its rows and columns numbered anew, and the matrix that it builds.
use Rattle.std.proofs.Common.{◌≡◌, ℕ, zero, suc, ◌+◌, ◌<◌, ◌≤◌, Bool, true, false, cond, List, [], ◌∷◌, length}
use Rattle.std.proofs.Common.{get_or, map, refl, sym, ◌∙◌, ap, subst, arith, Option, Some, IsSome, unwrap_or}
use Rattle.std.proofs.Common.{Contains, eqb, ◌&&◌, T, Result, Ok, Err, IfOk}
use Rattle.std.proofs.Common.{take, drop, ◌++◌, append-nil}
use Rattle.std.proofs.lemmas.List.{get_or-map, length-map, get_or_default, drop_all, take_all}
use Rattle.std.specs.FinMap.{get, entries, entries_sorted, is_sorted}
use Rattle.std.specs.List.Sorted.{IsStrictlyIncreasing}
use Rattle.cells.specs.declared.cell.Cell.{Cell}
use Rattle.cells.specs.Bounds.{AreWithin, IsDimension}
use Rattle.cells.specs.Sums.{stands_at, sum_at, cell_total}
use Rattle.hyper_matrix.proofs.BuiltOfLaws.{told_cells, get-built_of}
use Rattle.cells.specs.Order.{Rise}
use Rattle.hyper_matrix.proofs.PlaceOrderLaws.{rises}
use Rattle.hyper_matrix.proofs.PartLaws.{built-entries}
use Rattle.hyper_matrix.specs.Counts.{Counts, Place, place_cmp, built}
use Rattle.hyper_matrix.specs.Cells.{built_of, cells_at, entry_of}
use Rattle.snap_export.specs.declared.axis.Axis.{Axis}
use Rattle.snap_export.specs.Labels.{AreLabels, label, number_of, numbers_of, back, label_lines}
use Rattle.snap_export.specs.Compact.{HasRow, HasCol, IsCompact, dimension}
use Rattle.mm_text.specs.Canonical.{canonical}
use Rattle.mm_laws.proofs.CellsBuilt.{text_of_list}
use Rattle.snap_export.specs.Files.{parts_of}
use Rattle.snap_export.specs.Told.{ReadsBack, compact_parts}
use Rattle.snap_export.proofs.LabelLemmas.{sum_back, label_less}

plain : (cs : List Cell) → unwrap_or (told_cells cs) 0 ≡ cell_total cs
plain [] = refl
plain (c ∷ cs) = refl

sum_told : (q : Place) (cells : List Cell) → sum_at q cells ≡ told_cells (cells_at q cells)
sum_told q [] = refl
sum_told q (cell ∷ cells) = step (stands_at q cell) (sum_told q cells)
  where
    step : (b : Bool) → sum_at q cells ≡ told_cells (cells_at q cells) →
        cond b (Some (cell.count + unwrap_or (sum_at q cells) 0)) (sum_at q cells) ≡
        told_cells (cond b (cell ∷ cells_at q cells) (cells_at q cells))
    step true rest = ap (λ o. Some (cell.count + unwrap_or o 0)) rest ∙
        ap (λ n. Some (cell.count + n)) (plain (cells_at q cells))
    step false rest = rest

pub get_sum : (q : Place) (cells : List Cell) → get (built_of cells) q ≡ sum_at q cells
get_sum q cells = get-built_of cells q ∙ sym (sum_told q cells)

abbrev no_cell : Cell
no_cell = record { row = 0; col = 0; count = 0 }

-- what a list of cells has an entry at
some_here : (cell : Cell) (n : ℕ) (o : Option ℕ) →
    IsSome (cond (stands_at (cell.row, cell.col) cell) (Some n) o)
some_here cell n o = step (eqb cell.row cell.row) (eqb cell.col cell.col) (grind arith) (grind arith)
  where
    step : (a b : Bool) → a ≡ true → b ≡ true → IsSome (cond (a && b) (Some n) o)
    step true true p q = refl
    step true false p q = absurd (cc)
    step false b p q = absurd (cc)

some_behind : (b : Bool) (n : ℕ) (o : Option ℕ) → IsSome o → IsSome (cond b (Some n) o)
some_behind true n o h = refl
some_behind false n o h = h

some_at : (cells : List Cell) (k : ℕ) (d : Cell) → k < length cells →
    IsSome (sum_at ((get_or cells k d).row, (get_or cells k d).col) cells)
some_at [] k d h = absurd (omega (arith, h))
some_at (cell ∷ cells) zero d h = some_here cell _ _
some_at (cell ∷ cells) (suc k) d h = some_behind _ _ _ (some_at cells k d (omega (arith, h)))

pub record IsFoundAt (cells : List Cell) (q : Place) : Type 0 where
  pub at : ℕ
  pub within : at < length cells
  pub row : (get_or cells at no_cell).row ≡ q.0
  pub col : (get_or cells at no_cell).col ≡ q.1

pub found_at : (cells : List Cell) (q : Place) → IsSome (sum_at q cells) → IsFoundAt cells q
found_at [] q h = absurd (cc)
found_at (cell ∷ cells) q h = step (eqb q.0 cell.row) (eqb q.1 cell.col) refl refl (found_at cells q) h
  where
    behind : IsFoundAt cells q → IsFoundAt (cell ∷ cells) q
    behind f = record { at = suc f.at; within = omega (arith, f.within); row = f.row; col = f.col }

    step : (a b : Bool) → eqb q.0 cell.row ≡ a → eqb q.1 cell.col ≡ b →
        (IsSome (sum_at q cells) → IsFoundAt cells q) →
        IsSome (cond (a && b) (Some (cell.count + unwrap_or (sum_at q cells) 0)) (sum_at q cells)) →
        IsFoundAt (cell ∷ cells) q
    step true true p r rest some =
        record { at = 0; within = omega arith; row = grind (arith, p); col = grind (arith, r) }
    step true false p r rest some = behind (rest some)
    step false b p r rest some = behind (rest some)

-- which rows and columns have one
place_at : (axis : Axis) (cells : List Cell) (n : ℕ) (h : Contains (numbers_of axis cells) n) →
    (h.0 < length cells) × (number_of axis (get_or cells h.0 no_cell) ≡ n)
place_at axis cells n h =
    let lt : h.0 < length cells = omega (arith, h.1, length-map cells (number_of axis)) in
    (lt, sym (get_or-map (number_of axis) cells h.0 no_cell n lt) ∙ h.2)

pub row_found : (cells : List Cell) (row : ℕ) → Contains (numbers_of Axis.Rows cells) row → HasRow (built_of cells) row
row_found cells row h =
    let at = place_at Axis.Rows cells row h in
    let cell = get_or cells h.0 no_cell in (
      cell.col,
      subst IsSome (sym (get_sum (row, cell.col) cells))
          (subst (λ (n : ℕ). IsSome (sum_at (n, cell.col) cells)) at.1 (some_at cells h.0 no_cell at.0)),
    )

pub col_found : (cells : List Cell) (col : ℕ) → Contains (numbers_of Axis.Cols cells) col → HasCol (built_of cells) col
col_found cells col h =
    let at = place_at Axis.Cols cells col h in
    let cell = get_or cells h.0 no_cell in (
      cell.row,
      subst IsSome (sym (get_sum (cell.row, col) cells))
          (subst (λ (n : ℕ). IsSome (sum_at (cell.row, n) cells)) at.1 (some_at cells h.0 no_cell at.0)),
    )

pub row_named : (cells : List Cell) (row : ℕ) → HasRow (built_of cells) row → Contains (numbers_of Axis.Rows cells) row
row_named cells row h =
    let found = found_at cells (row, h.0) (subst IsSome (get_sum (row, h.0) cells) h.1) in (
      found.at,
      omega (arith, found.within, length-map cells (number_of Axis.Rows)),
      get_or-map (number_of Axis.Rows) cells found.at no_cell row found.within ∙ found.row,
    )

pub col_named : (cells : List Cell) (col : ℕ) → HasCol (built_of cells) col → Contains (numbers_of Axis.Cols cells) col
col_named cells col h =
    let found = found_at cells (h.0, col) (subst IsSome (get_sum (h.0, col) cells) h.1) in (
      found.at,
      omega (arith, found.within, length-map cells (number_of Axis.Cols)),
      get_or-map (number_of Axis.Cols) cells found.at no_cell col found.within ∙ found.col,
    )

pub made_compact : (m : Counts) (cells compact : List Cell) (rows cols : List ℕ) → built_of cells ≡ m →
    AreLabels (Contains (numbers_of Axis.Rows cells)) rows → AreLabels (Contains (numbers_of Axis.Cols cells)) cols →
    AreWithin (length rows) (length cols) compact → map (back rows cols) compact ≡ cells →
    IsCompact m rows cols (built_of compact)
made_compact m cells compact rows cols is r c all same = record {
  rows_are = record {
    rise = r.rise;
    all = λ n h. r.all n (row_named cells n (subst (λ (x : Counts). HasRow x n) (sym is) h));
    none_else = λ n h. subst (λ (x : Counts). HasRow x n) is (row_found cells n (r.none_else n h));
  };
  cols_are = record {
    rise = c.rise;
    all = λ n h. c.all n (col_named cells n (subst (λ (x : Counts). HasCol x n) (sym is) h));
    none_else = λ n h. subst (λ (x : Counts). HasCol x n) is (col_found cells n (c.none_else n h));
  };
  within = λ i j h.
      let found = found_at compact (i, j) (subst IsSome (get_sum (i, j) compact) h) in
      let at = all found.at no_cell found.within in
      (omega (arith, at.0, found.row), omega (arith, at.1, found.col));
  counts_are = λ i j a b.
      get_sum (i, j) compact ∙ sym (sum_back rows cols r.rise c.rise compact all i j a b)
      ∙ ap (λ (l : List Cell). sum_at (label rows i, label cols j) l) same
      ∙ sym (get_sum (label rows i, label cols j) cells)
      ∙ ap (λ (x : Counts). get x (label rows i, label cols j)) is;
}

-- the cells of a matrix one after the other build it, and rise
pub list_built : (m : Counts) (cells : List Cell) → map entry_of cells ≡ entries m → built_of cells ≡ m
list_built m cells is = ap built is ∙ built-entries m

pub list_rises : (m : Counts) (cells : List Cell) → map entry_of cells ≡ entries m → Rise cells
list_rises m cells is =
    rises cells (subst (λ (es : List (Place × ℕ)). T (is_sorted place_cmp es)) (sym is) (entries_sorted m))

-- ---- a list that was relabelled where it stands

module _ (rows cols used_rows used_cols : List ℕ) (given lent new : List Cell) (len : ℕ) (r : used_rows ≡ rows)
    (c : used_cols ≡ cols) (lends : lent ≡ given) (long : length lent ≡ len)
    (same : map (back used_rows used_cols) new ≡ lent) where
  whole : take len (new ++ drop (length new) given) ≡ new
  whole =
      let count : length new ≡ len = omega (arith, ap length same, length-map new (back used_rows used_cols), long) in
      let all : length given ≡ length new = omega (arith, count, long, ap length lends) in
      ap (λ (l : List Cell). take len (new ++ l)) (drop_all (length new) given (omega (arith, all)))
      ∙ ap (take len) (append-nil new) ∙ take_all len new (omega (arith, count))

  pub relabelled_within : AreWithin (length used_rows) (length used_cols) new →
      AreWithin (length rows) (length cols) (take len (new ++ drop (length new) given))
  relabelled_within all = subst (AreWithin (length rows) (length cols)) (sym whole)
      (subst (λ (ls : List ℕ). AreWithin (length rows) (length ls) new) c
      (subst (λ (ls : List ℕ). AreWithin (length ls) (length used_cols) new) r all))

  pub relabelled_back : map (back rows cols) (take len (new ++ drop (length new) given)) ≡ given
  relabelled_back = ap (map (back rows cols)) whole ∙ sym (ap (λ (ls : List ℕ). map (back ls cols) new) r)
      ∙ sym (ap (λ (ls : List ℕ). map (back used_rows ls) new) c) ∙ same ∙ lends

-- ---- how many labels there are

place_reached : (labels : List ℕ) → IsStrictlyIncreasing labels → (i : ℕ) → i < length labels → i ≤ label labels i
place_reached labels up zero h = omega arith
place_reached labels up (suc i) h = omega (
  arith,
  place_reached labels up i (omega (arith, h)),
  label_less labels up i (suc i) (omega arith) h,
)

few_labels : (labels : List ℕ) (most : ℕ) → IsStrictlyIncreasing labels →
    ((n : ℕ) → Contains labels n → n < most) → length labels ≤ most
few_labels [] most up below = omega arith
few_labels (first ∷ others) most up below =
    let labels = first ∷ others in
    let last = length others in
    let within : last < length labels = omega arith in
    omega (
      arith,
      place_reached labels up last within,
      below (label labels last) (last, within, get_or_default labels last (label labels last) 0 within),
    )

few_dimension : (labels : List ℕ) (most : ℕ) → IsDimension most → length labels ≤ most → IsDimension (dimension labels)
few_dimension [] most is le = (omega arith, omega (arith, is.0, is.1))
few_dimension (first ∷ others) most is le = (omega arith, omega (arith, is.1, le))

row_below : (cells : List Cell) (rows cols row : ℕ) → AreWithin rows cols cells →
    Contains (numbers_of Axis.Rows cells) row → row < rows
row_below cells rows cols row all h =
    let at = place_at Axis.Rows cells row h in
    omega (arith, (all h.0 no_cell at.0).0, at.1)

col_below : (cells : List Cell) (rows cols col : ℕ) → AreWithin rows cols cells →
    Contains (numbers_of Axis.Cols cells) col → col < cols
col_below cells rows cols col all h =
    let at = place_at Axis.Cols cells col h in
    omega (arith, (all h.0 no_cell at.0).1, at.1)

-- the labels of cells within dimensions are no more than those
pub few_of : (cells : List Cell) (rows cols : ℕ) (row_labels col_labels : List ℕ) → IsDimension rows →
    IsDimension cols → AreWithin rows cols cells → AreLabels (Contains (numbers_of Axis.Rows cells)) row_labels →
    AreLabels (Contains (numbers_of Axis.Cols cells)) col_labels →
    IsDimension (dimension row_labels) × IsDimension (dimension col_labels)
few_of cells rows cols row_labels col_labels is_rows is_cols all r c = (
  few_dimension row_labels rows is_rows
      (few_labels row_labels rows r.rise (λ n h. row_below cells rows cols n all (r.none_else n h))),
  few_dimension col_labels cols is_cols
      (few_labels col_labels cols c.rise (λ n h. col_below cells rows cols n all (c.none_else n h))),
)

dimension_holds : (labels : List ℕ) → length labels ≤ dimension labels
dimension_holds [] = omega arith
dimension_holds (first ∷ others) = omega arith

-- cells whose rows and columns have labels lie within the dimensions of these
pub within_dimensions : (rows cols : List ℕ) (cells used : List Cell) (d e : ℕ) → d ≡ dimension rows →
    e ≡ dimension cols → used ≡ cells → IsDimension (dimension rows) × IsDimension (dimension cols) →
    AreWithin (length rows) (length cols) cells → IsDimension d × IsDimension e × AreWithin d e used
within_dimensions rows cols cells used d e dr dc is few all = (
  subst IsDimension (sym dr) few.0,
  subst IsDimension (sym dc) few.1,
  subst (AreWithin d e) (sym is) (λ k cell lt.
      let h = all k cell lt in
      (omega (arith, h.0, dimension_holds rows, dr), omega (arith, h.1, dimension_holds cols, dc))),
)

-- what is so of an answer by four things that are
pub if_ok_four : {T E : Type 0} (r : Result T E) {P Q R S U : T → Type 0} →
    ((x : T) → P x → Q x → R x → S x → U x) → IfOk r P → IfOk r Q → IfOk r R → IfOk r S → IfOk r U
if_ok_four (Ok x) f p q r s = f x p q r s
if_ok_four (Err e) f p q r s = tt

-- the three files, by what stands for each part
pub parts_same : (rows cols rows' cols' : List ℕ) (cells cells' : List Cell) (d e : ℕ) → rows' ≡ rows → cols' ≡ cols →
    cells' ≡ cells → d ≡ dimension rows → e ≡ dimension cols → Rise cells →
    parts_of (label_lines rows') (label_lines cols') (canonical d e cells') ≡ compact_parts rows cols (built_of cells)
parts_same rows cols rows' cols' cells cells' d e r c l dr dc up =
    ap (λ (xs : List ℕ). parts_of (label_lines xs) (label_lines cols') (canonical d e cells')) r
    ∙ ap (λ (xs : List ℕ). parts_of (label_lines rows) (label_lines xs) (canonical d e cells')) c
    ∙ ap (parts_of (label_lines rows) (label_lines cols))
    (ap (canonical d e) l ∙ ap (λ (n : ℕ). canonical n e cells) dr
    ∙ ap (λ (n : ℕ). canonical (dimension rows) n cells) dc
    ∙ text_of_list (dimension rows) (dimension cols) cells (built_of cells) up refl)

-- ---- read back

pub reads_back : (m n : Counts) (rows cols : List ℕ) → IsCompact m rows cols n → (p : Place) (count : ℕ) →
    get m p ≡ Some count → ReadsBack rows cols n p count
reads_back m n rows cols h p count is =
    let i = h.rows_are.all p.0 (p.1, subst IsSome (sym is) refl) in
    let j = h.cols_are.all p.1 (p.0, subst IsSome (sym is) refl) in
    let row : p.0 ≡ label rows i.0 = sym i.2 ∙ get_or_default rows i.0 p.0 0 i.1 in
    let col : p.1 ≡ label cols j.0 = sym j.2 ∙ get_or_default cols j.0 p.1 0 j.1 in
    let place : ◌≡◌ {A = Place} p (label rows i.0, label cols j.0) = (λ x. (row x, col x)) in
    (i.0, j.0, i.1, j.1, place, h.counts_are i.0 j.0 i.1 j.1 ∙ ap (get m) (sym place) ∙ is)

pub has_read : (m n : Counts) (rows cols : List ℕ) → IsCompact m rows cols n → (p : Place) (count : ℕ) →
    ReadsBack rows cols n p count → get m p ≡ Some count
has_read m n rows cols h p count (i, j, a, b, place, is) =
    ap (get m) place ∙ sym (h.counts_are i j a b) ∙ is
