-- A matrix that is carried from layer to layer, and what it is with the next layer.
use Rattle.std.proofs.Common.{◌≡◌, ℕ, suc, ◌+◌, ◌<◌, ◌^◌, List, length, take, get_or, sym, ◌∙◌, ap}
use Rattle.std.proofs.Common.{inl, inr, arith}
use Rattle.std.specs.declared.sync.Arc.{Arc}
use Rattle.std.specs.Arc.{arc_value}
use Rattle.std.specs.FinMap.{len}
use Rattle.hyper_matrix.specs.Counts.{Counts, ewise_add, total}
use Rattle.hyper_matrix.specs.Matrix.{Matrix, matrix}
use Rattle.hyper_matrix.proofs.CountLaws.{ewise_add_assoc, ewise_add-empty, total-ewise_add}
use Rattle.layer_compaction.specs.Shared.{content, values, all_counts, HaveDims}
use Rattle.layer_cascade.specs.Cascade.{with_first, CanHold}
use Rattle.layer_compaction.specs.Steps.{joined}
use Rattle.layer_compaction.proofs.LayerLemmas.{sum_more, more_fits, layer_dims}

-- nothing was met yet
pub carried_first : (layers : List Counts) (sum m : Matrix) → sum ≡ m →
    sum ≡ matrix m.rows m.cols (ewise_add m.counts (content (take 0 layers)))
carried_first layers sum m is = is ∙ sym (ap (matrix m.rows m.cols) (ewise_add-empty m.counts))

-- the same sum, where a place is told twice
pub carried_at : (layers : List Counts) (sum m : Matrix) (i j : ℕ) → i ≡ j →
    sum ≡ matrix m.rows m.cols (ewise_add m.counts (content (take i layers))) →
    sum ≡ matrix m.rows m.cols (ewise_add m.counts (content (take j layers)))
carried_at layers sum m i j same is =
    is ∙ ap (λ n. matrix m.rows m.cols (ewise_add m.counts (content (take n layers)))) same

-- the sum with the layers before place j, and the layer there
module _ {Z : Type 0} (layers : List (Arc Matrix Z)) (j : ℕ) (item : Arc Matrix Z) (x : Matrix) (h : j < length layers)
    (at : item ≡ get_or layers j item) (is : x ≡ arc_value item) (m sum : Matrix)
    (here : sum ≡ matrix m.rows m.cols (ewise_add m.counts (content (take j (all_counts (values layers)))))) where
  with_more : ewise_add (ewise_add m.counts (content (take j (all_counts (values layers))))) x.counts ≡ ewise_add
      m.counts (content (take (j + 1) (all_counts (values layers))))
  with_more = ewise_add_assoc m.counts (content (take j (all_counts (values layers)))) x.counts
      ∙ ap (ewise_add m.counts) (sym (sum_more layers j item x h at is))

  -- both together, for the next layer
  pub carried_next : (after : Matrix) → after ≡ joined x sum →
      after ≡ matrix m.rows m.cols (ewise_add m.counts (content (take (j + 1) (all_counts (values layers)))))
  carried_next after after_is = after_is ∙ ap (joined x) here ∙ ap (matrix m.rows m.cols) with_more

  -- the same, where the cascade may end
  pub with_layer : (after : Matrix) → after ≡ joined x sum →
      after ≡ matrix m.rows m.cols (with_first (all_counts (values layers)) m.counts j)
  with_layer after after_is = carried_next after after_is
      ∙ ap (λ n. matrix m.rows m.cols (ewise_add m.counts (content (take n (all_counts (values layers))))))
      {x = j + 1} {y = suc j} (omega arith)

  pub meets_rows : HaveDims m.rows m.cols (values layers) → sum.rows ≡ x.rows
  meets_rows dims = ap (λ (y : Matrix). y.rows) here ∙ sym (layer_dims layers j item x h at is m.rows m.cols dims).0

  pub meets_cols : HaveDims m.rows m.cols (values layers) → sum.cols ≡ x.cols
  meets_cols dims = ap (λ (y : Matrix). y.cols) here ∙ sym (layer_dims layers j item x h at is m.rows m.cols dims).1

  pub meets_fits : total (content (all_counts (values layers))) + total m.counts < 2 ^ 64 →
      total sum.counts + total x.counts < 2 ^ 64
  meets_fits fits = omega (
    arith,
    fits,
    ap (λ (y : Matrix). total y.counts) here,
    total-ewise_add m.counts (content (take j (all_counts (values layers)))),
    more_fits layers j item x h at is,
  )

-- a place that isn't the last, and where there is too much
pub not_here : (layers : List Counts) (cuts : List ℕ) (m : Counts) (j : ℕ) → length layers ≡ length cuts + 1 →
    j < length cuts → get_or cuts j 0 < len (with_first layers m j) → CanHold layers cuts m j → ⊥
not_here layers cuts m j k h more (inl last) = absurd (omega arith)
not_here layers cuts m j k h more (inr fits) = absurd (omega arith)
