use Rattle.std.proofs.Common.{◌≡◌, ◌+◌, refl, sym, ap, ◌∙◌, take, rules, arith}
use Rattle.std.specs.Arc.{arc_value}
use Rattle.hyper_matrix.specs.Cells.{built_of}
use Rattle.hyper_matrix.specs.Counts.{ewise_add}
use Rattle.hyper_matrix.specs.Matrix.{Matrix}
use Rattle.hyper_matrix.proofs.CountLaws.{ewise_add-empty}
use Rattle.batch_store.specs.Accepted.{list_sum}
use Rattle.batch_store.specs.Batches.{values}
use Rattle.batch_store.proofs.BatchSumLaws.{built-none, listed_more}
use Rattle.batch_store.proofs.BookFoldLaws.{front_more}
use Rattle.batch_store.proofs.batch_sum.with_batches.Goals.{then-len-most+in_ok-sum, else-len-most}
use Rattle.batch_store.proofs.batch_sum.with_batches.Goals as goal

pub batches-init : goal.batches-init
batches-init c = record {
  rows = refl;
  cols = refl;
  told = ap (ewise_add c.args.m.counts) (ap built_of c.new-cells.ensures.items ∙ built-none);
}

pub batches-preserved : goal.batches-preserved
batches-preserved c =
    let base = c.args.m.counts in
    let items = c.args.batches.now in
    let at = c.batches.batch-index in
    let a = c.batch-item.result in
    let sum = c.batches.sum in
    let more : ewise_add sum.counts (built_of c.push_cells.new.out.items)
    ≡ ewise_add base (list_sum (values (take (at + 1) items))) =
    listed_more sum.counts base (list_sum (values (take at items))) (arc_value a).matrix.counts
    c.batches.cells.items c.push_cells.new.out.items
    (search rules)
    c.batches.invariant.told
    ∙ ap (ewise_add base) (sym (front_more items at a (omega arith) c.batch-item.is)) in
    elim c.if-len-most.branch [
      | then-len-most+in_ok-sum w ↦
          let sum_is = w.sum-is ∙ w.in_ok-sum.ensures in record {
            rows = ap (λ (m : Matrix). m.rows) sum_is ∙ c.batches.invariant.rows;
            cols = ap (λ (m : Matrix). m.cols) sum_is ∙ c.batches.invariant.cols;
            told = (λ i. ewise_add (sum_is i).counts (built_of ((w.cells-is ∙ w.replace-part.ensures.after) i).items))
                ∙ ap (ewise_add _) (ap built_of w.new.ensures.items ∙ built-none)
                ∙ ewise_add-empty _
                ∙ (λ i. ewise_add sum.counts (built_of (w.replace-part.ensures.value i).items)) ∙ more;
          }
      | else-len-most w ↦ record {
        rows = ap (λ (m : Matrix). m.rows) w.sum-is ∙ c.batches.invariant.rows;
        cols = ap (λ (m : Matrix). m.cols) w.sum-is ∙ c.batches.invariant.cols;
        told = (λ i. ewise_add (w.sum-is i).counts (built_of (w.cells-is i).items)) ∙ more;
      }
    ]
