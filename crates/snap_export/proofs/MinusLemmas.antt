-- What two snapshots of one book have to do with each other.
use Rattle.std.proofs.Common.{◌≡◌, ⊎_elim, inl, inr, ℕ, List, Result, refl, sym, ap, subst, ◌∙◌}
use Rattle.std.specs.FinMap.{empty}
use Rattle.cells.specs.Bounds.{IsDimension, AreWithin}
use Rattle.cells.specs.Order.{Rise}
use Rattle.cells.specs.declared.cell.Cell.{Cell}
use Rattle.hyper_matrix.specs.Cells.{built_of}
use Rattle.hyper_matrix.specs.Counts.{Counts, Place, ewise_add}
use Rattle.hyper_matrix.specs.Matrix.{Matrix, matrix}
use Rattle.hyper_matrix.proofs.CountLaws.{ewise_add_assoc}
use Rattle.layer_compaction.proofs.LayerLemmas.{empty-ewise_add}
use Rattle.matrix_difference.specs.Difference.{IsDifference, IsFirstFall, HasFewerZeros}
use Rattle.matrix_difference.proofs.PlaceLaws.{is_left, has_fewer, without_zeros}
use Rattle.matrix_difference.specs.declared.difference.MinusFault.{MinusFault}
use Rattle.matrix_difference.specs.declared.difference.MinusFault.TheVariants as minus
use Rattle.batch_store.specs.Accepted.{Accepted, list_sum, summed}
use Rattle.batch_store.specs.Batches.{Submission}
use Rattle.batch_store.proofs.SumLaws.{list_sum-append}
use Rattle.mm_text.specs.Canonical.{canonical}
use Rattle.mm_laws.specs.MatrixText.{matrix_text}
use Rattle.mm_laws.proofs.CellsBuilt.{text_of_list}
use Rattle.snap_file.specs.Snapshots.{Saved}
use Rattle.snap_file.specs.declared.fault.SaveFault.{SaveFault}
use Rattle.snap_report.specs.declared.fault.CheckFault.{CheckFault}
use Rattle.snap_export.specs.Minus.{sum_in, HasMore, IsUnsubtracted, fault_of, followed_by, more_text}
use Rattle.snap_export.specs.Minus.{TellsMore, TellsDifference}
use Rattle.snap_export.specs.declared.minus_fault.DifferenceFault.{DifferenceFault}
use Rattle.snap_export.specs.declared.minus_fault.DifferenceFault.TheVariants as fault

-- counts that were added to nothing
pub added_to_none : (rows cols : ℕ) (m next : Matrix) (counts : Counts) → m ≡ matrix rows cols empty →
    next ≡ record m { counts = ewise_add m.counts counts } → next ≡ matrix rows cols counts
added_to_none rows cols m next counts none added =
    added ∙ ap (λ (n : Matrix). matrix n.rows n.cols (ewise_add n.counts counts)) none
    ∙ ap (matrix rows cols) (empty-ewise_add counts)

-- the first place where a count falls, of counts that are given otherwise
pub falls_same : (a b x y : Counts) (p : Place) → a ≡ x → b ≡ y → IsFirstFall a b p → IsFirstFall x y p
falls_same a b x y p left right h =
    subst (λ (n : Counts). IsFirstFall x n p) right (subst (λ (n : Counts). IsFirstFall n b p) left h)

-- the cells of the difference of two sums
pub more_made : (x y : Saved) (m n : Matrix) (dims : ℕ × ℕ) (ns bs cells : List Cell) →
    m ≡ matrix x.setup.rows x.setup.cols (sum_in x) → n ≡ matrix y.setup.rows y.setup.cols (sum_in y) →
    dims ≡ (m.rows, m.cols) → IsDimension m.rows → IsDimension m.cols → built_of ns ≡ m.counts →
    built_of bs ≡ n.counts → AreWithin m.rows m.cols ns → IsDifference (built_of ns) (built_of bs) (built_of cells) →
    Rise cells → ((rows cols : ℕ) → AreWithin rows cols ns → AreWithin rows cols cells) →
    HasMore x y dims.0 dims.1 cells
more_made x y m n dims ns bs cells new old same rows cols left right within differ rises kept = record {
  rows_are = ap (λ (d : ℕ × ℕ). d.0) same ∙ ap (λ (a : Matrix). a.rows) new;
  cols_are = ap (λ (d : ℕ × ℕ). d.1) same ∙ ap (λ (a : Matrix). a.cols) new;
  is_rows = subst IsDimension (sym (ap (λ (d : ℕ × ℕ). d.0) same)) rows;
  is_cols = subst IsDimension (sym (ap (λ (d : ℕ × ℕ). d.1) same)) cols;
  rises = rises;
  within = subst (λ (d : ℕ × ℕ). AreWithin d.0 d.1 cells) (sym same) (kept m.rows m.cols within);
  is_more = subst (λ (b : Counts). IsDifference (sum_in x) b (built_of cells)) (right ∙ ap (λ (a : Matrix). a.counts) old)
      (subst (λ (a : Counts). IsDifference a (built_of bs) (built_of cells)) (left ∙ ap (λ (a : Matrix). a.counts) new)
      differ);
}

-- the text of such cells
pub more_written : (a b : Saved) (rows cols : ℕ) (cells given : List Cell) → given ≡ cells → HasMore a b rows cols cells →
    canonical rows cols given ≡ more_text a (built_of cells)
more_written a b rows cols cells given same h =
    ap (canonical rows cols) same ∙ text_of_list rows cols cells (built_of cells) h.rises refl
    ∙ (λ i. matrix_text (matrix (h.rows_are i) (h.cols_are i) (built_of cells)))

-- what is told of a walk over both sums
pub unsubtracted : (a b : Saved) (f : MinusFault) →
    ((row col : ℕ) → f ≡ minus.Falls row col → IsFirstFall (sum_in a) (sum_in b) (row, col)) →
    IsUnsubtracted a b (fault_of f)
unsubtracted a b (minus.Falls row col) h = h row col refl
unsubtracted a b minus.Memory h = tt

-- what is told of the loads is told of an export
pub more_told : {F : Type 0} (loads : F → ℕ → Result Saved CheckFault → F → Type 0) (s t : F) (told : DifferenceFault) →
    TellsMore loads s t told → TellsDifference loads s t told
more_told loads s t (fault.New why) h = h
more_told loads s t (fault.Old why) h = h
more_told loads s t fault.OtherBook h = h
more_told loads s t fault.DimensionsDiffer h = h
more_told loads s t (fault.NotBefore at) h = h
more_told loads s t (fault.Falls row col) h = h
more_told loads s t fault.Memory h = h
more_told loads s t (fault.Output why) h = tt
more_told loads s t (fault.Save why) h = tt

-- none of them is of a save
pub no_save : {F : Type 0} (loads : F → ℕ → Result Saved CheckFault → F → Type 0) (s t : F) (why : SaveFault) →
    TellsMore loads s t (fault.Save why) → ⊥
no_save loads s t why (inl h) = h
no_save loads s t why (inr (inl h)) = h.3
no_save loads s t why (inr (inr h)) = ⊎_elim (λ k. k) (λ k. k.1) h.3

-- what came after a list
pub sum_after : (a : Accepted) (more : List Submission) → ewise_add (summed a) (list_sum more) ≡ summed (followed_by a more)
sum_after a more =
    ewise_add_assoc a.base (list_sum a.list) (list_sum more) ∙ ap (ewise_add a.base) (sym (list_sum-append a.list more))

pub came_between : (a : Accepted) (more : List Submission) →
    (x : Counts) × IsDifference (summed (followed_by a more)) (summed a) x × HasFewerZeros (summed a) x (list_sum more)
came_between a more = (
  without_zeros (summed a) (list_sum more),
  is_left (summed (followed_by a more)) (summed a) (list_sum more) (sum_after a more),
  has_fewer (summed a) (list_sum more),
)
