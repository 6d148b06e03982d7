-- What a matrix's list of cells gives of the map that it builds.
use Rattle.std.proofs.Common.{◌≡◌, ℕ, zero, suc, ◌+◌, ◌≤◌, List, [], ◌∷◌, ◌++◌, map, length, sym, ◌∙◌, ap}
use Rattle.std.proofs.Common.{subst, refl, arith}
use Rattle.std.specs.List.{AllByRecursion}
use Rattle.std.proofs.lemmas.List.{length-map}
use Rattle.std.proofs.lemmas.List.Elements.{All-head, All-tail}
use Rattle.std.specs.FinMap.{empty, entries, len, len-entries}
use Rattle.cells.specs.Bounds.{IsDimension, IsWithin, AreWithin}
use Rattle.cells.specs.Order.{Rise}
use Rattle.cells.specs.declared.cell.Cell.{Cell}
use Rattle.hyper_matrix.specs.Counts.{total, built, ewise_add}
use Rattle.hyper_matrix.specs.Cells.{entry_of, built_of, cell_total}
use Rattle.hyper_matrix.proofs.BuiltOfLaws.{total-built_of, built_of-none}
use Rattle.hyper_matrix.proofs.CountLaws.{total-ewise_add, ewise_add_comm, ewise_add-empty}
use Rattle.hyper_matrix.proofs.SortedListLaws.{built-in_order, entries-in_order}
use Rattle.hyper_matrix.proofs.PlaceOrderLaws.{sorted_rising}
use Rattle.hyper_matrix.specs.Matrix.{Matrix, matrix}
use Rattle.hyper_matrix.specs.Merge.{AppendsSum}
use Rattle.hyper_matrix.specs.Shared.{LiesWithin, Holds}

-- cells in order are the entries of what they build
pub entries-built : (cells : List Cell) → Rise cells → entries (built_of cells) ≡ map entry_of cells
entries-built cells rises =
    let sorted = sorted_rising cells rises in
    ap entries (built-in_order (map entry_of cells) sorted) ∙ entries-in_order (map entry_of cells) sorted

pub len-built : (cells : List Cell) → Rise cells → len (built_of cells) ≡ length cells
len-built cells rises = len-entries (built_of cells) ∙ ap length (entries-built cells rises) ∙
    length-map cells entry_of

-- cells whose entries lie within the dimensions do so too
pub cells_within : (r c : ℕ) (cells : List Cell) → AllByRecursion (LiesWithin r c) (map entry_of cells) →
    AreWithin r c cells
cells_within r c [] a k d h = absurd (omega arith)
cells_within r c (x ∷ cells) a zero d h = a.0
cells_within r c (x ∷ cells) a (suc k) d h = cells_within r c cells a.1 k d (omega arith)

-- and the other way round
pub entries_within : (r c : ℕ) (cells : List Cell) → AreWithin r c cells →
    AllByRecursion (LiesWithin r c) (map entry_of cells)
entries_within r c [] w = tt
entries_within r c (x ∷ cells) w = (
  All-head (IsWithin r c) x cells w,
  entries_within r c cells (All-tail (IsWithin r c) x cells w),
)

-- cells that lie within dimensions lie within larger ones
pub within_wider : (r c r' c' : ℕ) (cells : List Cell) → r ≤ r' → c ≤ c' → AreWithin r c cells → AreWithin r' c' cells
within_wider r c r' c' cells rows cols w k d h =
    let row = (w k d h).0 in
    let col = (w k d h).1 in (omega arith, omega arith)

pub holds_none : (r c : ℕ) (cells : List Cell) → IsDimension r → IsDimension c → cells ≡ [] → Holds r c 0 cells
holds_none r c cells is_rows is_cols none = subst (λ (l : List Cell). Holds r c 0 l) (sym none) (record {
  is_rows = is_rows;
  is_cols = is_cols;
  rises = λ k d h. absurd (omega arith);
  within = λ k d h. absurd (omega arith);
  kept = refl;
})

pub nothing : (r c : ℕ) (cells : List Cell) → cells ≡ [] → matrix r c (built_of cells) ≡ matrix r c empty
nothing r c cells none = ap (matrix r c) (sym (built_of-none cells (omega (arith, ap length none))))

pub holds_wider : (r c r' c' s : ℕ) (cells : List Cell) → Holds r c s cells → (r ≤ r') × IsDimension r' →
    (c ≤ c') × IsDimension c' → Holds r' c' s cells
holds_wider r c r' c' s cells h rows cols = record {
  is_rows = rows.1;
  is_cols = cols.1;
  rises = h.rises;
  within = within_wider r c r' c' cells rows.0 cols.0 h.within;
  kept = h.kept;
}

-- the kept total is that of the map
pub kept_total : (r c s : ℕ) (cells : List Cell) → Holds r c s cells → s ≡ total (built_of cells)
kept_total r c s cells h = h.kept ∙ sym (total-built_of cells)

-- the sum of a matrix's cells and others, in a list that was empty
module _ (none list left right : List Cell) (is : AppendsSum none list left right) (nothing : none ≡ []) where
  pub all_appended : list ≡ is.cells
  all_appended = is.appended ∙ ap (λ (l : List Cell). l ++ is.cells) nothing

  pub sum_rises : Rise list
  sum_rises = subst Rise (sym all_appended) is.rises

  pub sum_within : (r c : ℕ) → AreWithin r c left → AreWithin r c right → AreWithin r c list
  sum_within r c a b = subst (AreWithin r c) (sym all_appended) (is.within r c a b)

  pub sum_builds : built_of list ≡ ewise_add (built_of left) (built_of right)
  sum_builds = ap built_of all_appended ∙ is.sums

  pub sum_total : cell_total list ≡ cell_total left + cell_total right
  sum_total = omega (
    arith,
    total-built_of list,
    ap total sum_builds,
    total-ewise_add (built_of left) (built_of right),
    total-built_of left,
    total-built_of right,
  )

-- a matrix and an empty one
pub with_empty : (x y s : Matrix) → s ≡ x → y.counts ≡ empty → s ≡ matrix x.rows x.cols (ewise_add x.counts y.counts)
with_empty x y s is none = is ∙ ap (matrix x.rows x.cols) (sym
    (ap (ewise_add x.counts) none ∙ ewise_add-empty x.counts))

-- the sum, turned round
pub turned_sum : (x y s : Matrix) → x.rows ≡ y.rows → x.cols ≡ y.cols →
    s ≡ matrix y.rows y.cols (ewise_add y.counts x.counts) → s ≡ matrix x.rows x.cols (ewise_add x.counts y.counts)
turned_sum x y s rows cols is =
    is ∙ ap (λ r. matrix r y.cols (ewise_add y.counts x.counts)) (sym rows) ∙
    ap (λ c. matrix x.rows c (ewise_add y.counts x.counts)) (sym cols) ∙
    ap (matrix x.rows x.cols) (ewise_add_comm y.counts x.counts)

-- no cells are in the list of a matrix
pub no_cells : (r c : ℕ) (cells : List Cell) (m : Matrix) → matrix r c (built_of cells) ≡ m → length cells ≡ 0 →
    m.counts ≡ empty
no_cells r c cells m is none = ap (λ (x : Matrix). x.counts) (sym is) ∙ sym (built_of-none cells none)

-- nothing builds the empty map
pub built-nil : built [] ≡ empty
unfolding built
built-nil = refl
