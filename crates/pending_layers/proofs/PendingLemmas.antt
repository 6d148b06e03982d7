-- Layers and a list of cells that waits: what they add up to, and what stays of it when cells come or the list is added
-- up.
use Rattle.std.proofs.Common.{◌≡◌, ℕ, ◌+◌, ◌<◌, ◌^◌, List, length, sym, ap, subst, ◌∙◌, arith}
use Rattle.cells.specs.Bounds.{AreWithin}
use Rattle.cells.specs.declared.cell.Cell.{Cell}
use Rattle.hyper_matrix.specs.Cells.{built_of, cell_total}
use Rattle.hyper_matrix.specs.Counts.{Counts, ewise_add, total}
use Rattle.hyper_matrix.specs.Matrix.{Matrix, matrix}
use Rattle.hyper_matrix.proofs.BuiltOfLaws.{total-built_of, built_of-none}
use Rattle.hyper_matrix.proofs.CountLaws.{ewise_add_assoc, ewise_add-empty, total-ewise_add}
use Rattle.layer_compaction.specs.Shared.{content}
use Rattle.layer_cascade.specs.Layering.{Layering}
use Rattle.pending_layers.specs.Pending.{with_pending, KeepsPending}

-- the counts of both together
pub total_pending : (v : Layering) (cells : List Cell) →
    total (ewise_add (content v.layers) (built_of cells)) ≡ total (content v.layers) + cell_total cells
total_pending v cells = omega (
  arith,
  total-ewise_add (content v.layers) (built_of cells),
  total-built_of cells,
)

-- What is kept as the total is the total of the matrix that contracts see, and fits.
module _ (v : Layering) (cells : List Cell) (sum : ℕ) (m : Matrix) (keeps : KeepsPending v cells sum)
    (view : with_pending v cells ≡ m) where
  pub total_kept : sum ≡ total m.counts
  total_kept = omega (arith, keeps.total_is, total_pending v cells, ap (λ (x : Matrix). total x.counts) view)

  pub total_fits : total m.counts < 2 ^ 64
  total_fits = omega (arith, keeps.fits, total_kept)

-- other layers and another list that add up to the same
module _ (v after : Layering) (cells left : List Cell) (rows : after.rows ≡ v.rows) (cols : after.cols ≡ v.cols)
    (same : ewise_add (content after.layers) (built_of left) ≡ ewise_add (content v.layers) (built_of cells)) where
  pub same_matrix : with_pending after left ≡ with_pending v cells
  same_matrix =
      ap (λ n. matrix n after.cols (ewise_add (content after.layers) (built_of left))) rows
      ∙ ap (λ n. matrix v.rows n (ewise_add (content after.layers) (built_of left))) cols
      ∙ ap (matrix v.rows v.cols) same

  pub keeps_same : (sum : ℕ) → KeepsPending v cells sum → AreWithin v.rows v.cols left → KeepsPending after left sum
  keeps_same sum keeps within = record {
    within = subst (λ n. AreWithin n after.cols left) (sym rows) (subst (λ n. AreWithin v.rows n left) (sym cols)
        within);
    total_is = omega (arith, keeps.total_is, total_pending v cells, total_pending after left, ap total same);
    fits = keeps.fits;
  }

-- the list has gone into the layers
pub all_added : (v after : Layering) (cells list seen cleared : List Cell) → built_of list ≡ built_of cells →
    seen ≡ list → content after.layers ≡ ewise_add (content v.layers) (built_of seen) → length cleared ≡ 0 →
    ewise_add (content after.layers) (built_of cleared) ≡ ewise_add (content v.layers) (built_of cells)
all_added v after cells list seen cleared told is added none =
    ap (ewise_add (content after.layers)) (sym (built_of-none cleared none))
    ∙ ewise_add-empty (content after.layers) ∙ added
    ∙ ap (λ l. ewise_add (content v.layers) (built_of l)) is ∙ ap (ewise_add (content v.layers)) told

-- a list that was empty adds up to what the layers hold
pub none_waits : (v : Layering) (cells : List Cell) → length cells ≡ 0 →
    with_pending v cells ≡ matrix v.rows v.cols (content v.layers)
none_waits v cells none =
    ap (λ n. matrix v.rows v.cols (ewise_add (content v.layers) n)) (sym (built_of-none cells none))
    ∙ ap (matrix v.rows v.cols) (ewise_add-empty (content v.layers))

-- more cells wait
module _ (v : Layering) (old new : List Cell) (x : Counts) (told : built_of new ≡ ewise_add (built_of old) x) where
  pub more_matrix : (m : Matrix) → with_pending v old ≡ m →
      with_pending v new ≡ matrix m.rows m.cols (ewise_add m.counts x)
  more_matrix m view =
      ap (λ n. matrix v.rows v.cols (ewise_add (content v.layers) n)) told
      ∙ ap (matrix v.rows v.cols) (sym (ewise_add_assoc (content v.layers) (built_of old) x))
      ∙ ap (λ (y : Matrix). matrix y.rows y.cols (ewise_add y.counts x)) view

  pub keeps_more : (sum n : ℕ) → KeepsPending v old sum → n ≡ total x → sum + n < 2 ^ 64 →
      AreWithin v.rows v.cols new → KeepsPending v new (sum + n)
  keeps_more sum n keeps n_is fits within = record {
    within = within;
    total_is = omega (
      arith,
      keeps.total_is,
      n_is,
      ap total told,
      total-built_of new,
      total-built_of old,
      total-ewise_add (built_of old) x,
    );
    fits = fits;
  }
