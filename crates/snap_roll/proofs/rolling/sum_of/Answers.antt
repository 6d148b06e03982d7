use Rattle.std.proofs.Common.{◌∙◌, ap}
use Rattle.hyper_matrix.specs.Counts.{ewise_add}
use Rattle.hyper_matrix.specs.Matrix.{matrix}
use Rattle.batch_store.specs.Accepted.{list_sum, summed}
use Rattle.batch_store.specs.Batches.{values}
use Rattle.batch_store.specs.Books.{Listing, accepted_in}
use Rattle.batch_store.specs.Pieces.{Cut}
use Rattle.snap_roll.proofs.rolling.sum_of.Goals as goal

pub returns : goal.returns
returns c =
    let list = c.args.list.now in
    let base_is = c.in_ok-base.ensures ∙ ap (λ (x : Cut). x.whole) c.deref.ensures ∙ ap (λ (l : Listing). l.base) c.list.view_is in
    let batches_are = ap values c.deref-2.ensures.value ∙ ap (λ (l : Listing). l.list) c.list.view_is in
    c.in_ok-sum.ensures
    ∙ (λ i. matrix (base_is i).rows (base_is i).cols (ewise_add (base_is i).counts (list_sum (batches_are i))))
    ∙ (λ i. matrix (c.requires.based.rows i) (c.requires.based.cols i) (summed (accepted_in list)))
