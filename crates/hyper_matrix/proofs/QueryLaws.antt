-- What the cells of a matrix give the look-ups in it.
use Rattle.std.proofs.Common.{◌≡◌, ℕ, zero, suc, ◌<◌, ◌≤◌, ◌⊎◌, true, false, cond, eqb, List, [], ◌∷◌}
use Rattle.std.proofs.Common.{map, Option, Some, None, sym, ◌∙◌, ap, subst, refl, inl, inr, arith}
use Rattle.std.specs.List.{slice_get, AllByRecursion}
use Rattle.std.specs.FinMap.{entries, len, find, get, get-empty, empty}
use Rattle.cells.specs.declared.cell.Cell.{Cell}
use Rattle.hyper_matrix.specs.Counts.{Place, Counts, place_cmp, total}
use Rattle.hyper_matrix.specs.Cells.{entry_of, built_of}
use Rattle.hyper_matrix.specs.Search.{IsRowSum}
use Rattle.hyper_matrix.specs.Matrix.{Matrix, matrix}
use Rattle.hyper_matrix.specs.RowOf.{row_of, IsFirst, HasNoneFrom}
use Rattle.hyper_matrix.specs.Shared.{LiesWithin, Holds}
use Rattle.hyper_matrix.specs.declared.row_sum.Entry.{Entry}
use Rattle.std.specs.Prelude.{IfSome, MatchOption}
use Rattle.std.specs.Option.{option_map}
use Rattle.std.specs.Ordering.{eq_by_cmp}
use Rattle.std.proofs.lemmas.Bool.{cases_eq, eq-eqb, ne_eqb}
use Rattle.std.proofs.lemmas.Option.{none-some, same_Some, slice_get-map}
use Rattle.hyper_matrix.proofs.CountLaws.{exact_places, same_counts}
use Rattle.hyper_matrix.proofs.PlaceOrderLaws.{sorted_rising}
use Rattle.hyper_matrix.proofs.MatrixLaws.{entries-built, entries_within}
use Rattle.hyper_matrix.proofs.SearchLaws.{is_equal, held}
use Rattle.hyper_matrix.proofs.RowOfLaws.{get-row_of, len-row_of, total-row_of}

-- a cell that is found lies within the dimensions, as all do
found_within : (rows cols : ℕ) (q : Place) (n : ℕ) (es : List (Place × ℕ)) → AllByRecursion (LiesWithin rows cols) es →
    find place_cmp q es ≡ Some n → (q.0 < rows) × (q.1 < cols)
found_within rows cols q n [] h is = absurd (none-some _ is)
found_within rows cols q n (e ∷ es) h is = elim (eq_by_cmp place_cmp q e.0) as
    (λ t. eq_by_cmp place_cmp q e.0 ≡ t → (q.0 < rows) × (q.1 < cols)) [
      | true ↦ λ t. subst (λ (p : Place). (p.0 < rows) × (p.1 < cols))
          (sym (exact_places q e.0 (is_equal (place_cmp q e.0) t))) h.0
      | false ↦ λ t. found_within rows cols q n es h.1 (sym (ap (λ b. cond b (Some e.1) (find place_cmp q es)) t) ∙ is)
    ] refl

listed_within : (rows cols i : ℕ) (e : Place × ℕ) (es : List (Place × ℕ)) → AllByRecursion (LiesWithin rows cols) es →
    slice_get es i ≡ Some e → (e.0.0 < rows) × (e.0.1 < cols)
listed_within rows cols i e [] h is = absurd (none-some _ is)
listed_within rows cols zero e (x ∷ es) h is = subst (λ (y : Place × ℕ). (y.0.0 < rows) × (y.0.1 < cols))
    (same_Some _ _ is) h.0
listed_within rows cols (suc i) e (x ∷ es) h is = listed_within rows cols i e es h.1 is

-- a matrix's cells with its view
module _ (cells : List Cell) (rows cols sum : ℕ) (m : Matrix) (view : matrix rows cols (built_of cells) ≡ m)
    (holds : Holds rows cols sum cells) where
  pub counts_are : built_of cells ≡ m.counts
  counts_are = ap (λ (x : Matrix). x.counts) view

  pub entries_are : entries m.counts ≡ map entry_of cells
  entries_are = ap entries (sym counts_are) ∙ entries-built cells holds.rises

  pub row_count_is : (r n s : ℕ) → IsRowSum r (map entry_of cells) n s → n ≡ len (row_of m.counts r)
  row_count_is r n s h = len-row_of m.counts (map entry_of cells) r n s entries_are h

  pub row_total_is : (r n s : ℕ) → IsRowSum r (map entry_of cells) n s → s ≡ total (row_of m.counts r)
  row_total_is r n s h = total-row_of m.counts (map entry_of cells) r n s entries_are h

  pub cell_is : (o : Option Cell) (i : ℕ) → o ≡ slice_get cells i →
      option_map entry_of o ≡ slice_get (entries m.counts) i
  cell_is o i e = ap (option_map entry_of) e ∙ sym (slice_get-map entry_of cells i) ∙
      ap (λ (l : List (Place × ℕ)). slice_get l i) (sym entries_are)

  -- the cells lie within the dimensions
  lie_within : AllByRecursion (LiesWithin rows cols) (map entry_of cells)
  lie_within = entries_within rows cols cells holds.within

  in_matrix : (p : Place) → (p.0 < rows) × (p.1 < cols) → (p.0 < m.rows) × (p.1 < m.cols)
  in_matrix p h = (
    omega (arith, h.0, ap (λ (x : Matrix). x.rows) view),
    omega (arith, h.1, ap (λ (x : Matrix). x.cols) view),
  )

  stands_within : (q : Place) (n : ℕ) → get m.counts q ≡ Some n → (q.0 < m.rows) × (q.1 < m.cols)
  stands_within q n is = in_matrix q (found_within rows cols q n (map entry_of cells) lie_within
      (sym (held (map entry_of cells) (sorted_rising cells holds.rises) q) ∙
      ap (λ (x : Counts). get x q) counts_are ∙ is))

  pub none_outside : (r c : ℕ) → (m.rows ≤ r) ⊎ (m.cols ≤ c) → get m.counts (r, c) ≡ None
  none_outside r c out = elim (get m.counts (r, c)) as (λ o. get m.counts (r, c) ≡ o → o ≡ None) [
    | None ↦ λ e. refl
    | Some n ↦ λ e. let h = stands_within (r, c) n e in absurd
        (elim out [ inl a ↦ omega (arith, h.0) | inr b ↦ omega (arith, h.1) ])
  ] refl

  pub row_outside : (r : ℕ) → m.rows ≤ r → row_of m.counts r ≡ empty
  row_outside r out = same_counts _ _ (λ q. get-row_of m.counts r q ∙ nothing q (cases_eq q.0 r) ∙
      sym (get-empty place_cmp q))
    where
      nothing : (q : Place) → (q.0 ≡ r) ⊎ (q.0 ≡ r → ⊥) → cond (eqb q.0 r) (get m.counts q) None ≡ None
      nothing q (inl same) = ap (λ b. cond b (get m.counts q) None) (eq-eqb q.0 r same) ∙
          none_outside q.0 q.1 (inl (omega arith))
      nothing q (inr other) = ap (λ b. cond b (get m.counts q) None) (ne_eqb q.0 r other)

  pub cell_within : (o : Option Cell) (i : ℕ) → option_map entry_of o ≡ slice_get (entries m.counts) i →
      IfSome o (λ cell. (cell.row < m.rows) × (cell.col < m.cols))
  cell_within None i is = tt
  cell_within (Some cell) i is = in_matrix (cell.row, cell.col)
      (listed_within rows cols i (entry_of cell) (map entry_of cells) lie_within
      (ap (λ (l : List (Place × ℕ)). slice_get l i) (sym entries_are) ∙ sym is))

  pub entry_within : (o : Option Entry) (r from : ℕ) → MatchOption o (HasNoneFrom m.counts r from)
      (IsFirst m.counts r from) → IfSome o (λ entry. (r < m.rows) × (entry.col < m.cols))
  entry_within None r from h = tt
  entry_within (Some entry) r from h = stands_within (r, entry.col) entry.count h.stands
