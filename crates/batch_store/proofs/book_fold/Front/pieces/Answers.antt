use Rattle.std.proofs.Common.{◌≡◌, ap, ◌∙◌}
use Rattle.hyper_matrix.specs.Counts.{ewise_add}
use Rattle.hyper_matrix.specs.Matrix.{matrix}
use Rattle.layer_compaction.proofs.LayerLemmas.{empty-ewise_add}
use Rattle.batch_store.specs.Accepted.{list_sum}
use Rattle.batch_store.specs.Batches.{values}
use Rattle.batch_store.specs.BookFolds.{FrontSum}
use Rattle.batch_store.specs.Pieces.{Cut}
use Rattle.batch_store.proofs.book_fold.Front.pieces.Goals as goal

pub returns : goal.returns
returns c =
    let rows = c.self.inside.rows in
    let cols = c.self.inside.cols in
    let none = c.new-none.ensures in
    let list = c.deref.ensures.value in
    let base = c.deref-2.ensures in
    let added : c.in_ok-added.added ≡ matrix rows cols (list_sum (values c.self.inside.batches.items)) =
    c.in_ok-added.ensures
    ∙ (λ i. matrix ((none i).rows) ((none i).cols) (ewise_add ((none i).counts) (list_sum (values (list i)))))
    ∙ ap (matrix rows cols) (empty-ewise_add (list_sum (values c.self.inside.batches.items))) in
    ap (λ (x : Cut). x.whole) c.in_ok-pieces.ensures
    ∙ (λ i. matrix ((added i).rows) ((added i).cols) (ewise_add ((base i).whole.counts) ((added i).counts)))
    ∙ ap (λ (f : FrontSum). f.sum) c.self.view_is
