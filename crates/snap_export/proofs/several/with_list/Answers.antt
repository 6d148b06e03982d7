use Rattle.std.proofs.Common.{◌∙◌, ap, arith}
use Rattle.hyper_matrix.specs.Counts.{ewise_add, total}
use Rattle.hyper_matrix.specs.Matrix.{Matrix, matrix}
use Rattle.hyper_matrix.proofs.CountLaws.{total-ewise_add, ewise_add_assoc}
use Rattle.batch_store.specs.Accepted.{list_sum}
use Rattle.batch_store.specs.Batches.{values}
use Rattle.batch_store.specs.Books.{Listing}
use Rattle.batch_store.specs.Pieces.{Cut}
use Rattle.snap_export.proofs.several.with_list.Goals as goal

pub into_sum-requires-clause-fits : goal.into_sum-requires-clause-fits
into_sum-requires-clause-fits c =
    let list = c.args.list.now in
    let base_is = c.in_ok-base.ensures ∙ ap (λ (x : Cut). x.whole) c.deref.ensures ∙ ap (λ (l : Listing). l.base) c.list.view_is in
    omega (
      arith,
      c.requires.fits,
      total-ewise_add list.base.counts (list_sum list.list),
      ap (λ (m : Matrix). total m.counts) base_is,
    )

pub returns : goal.returns
returns c =
    let m = c.args.m in
    let list = c.args.list.now in
    let base_is = c.in_ok-base.ensures ∙ ap (λ (x : Cut). x.whole) c.deref.ensures ∙ ap (λ (l : Listing). l.base) c.list.view_is in
    let batches_are = ap values c.deref-2.ensures.value ∙ ap (λ (l : Listing). l.list) c.list.view_is in
    c.in_ok-sum.ensures
    ∙ (λ i. matrix (c.in_ok-with_base.ensures i).rows (c.in_ok-with_base.ensures i).cols
    (ewise_add (c.in_ok-with_base.ensures i).counts (list_sum (batches_are i))))
    ∙ (λ i. matrix m.rows m.cols (ewise_add (ewise_add m.counts (base_is i).counts) (list_sum list.list)))
    ∙ ap (matrix m.rows m.cols) (ewise_add_assoc m.counts list.base.counts (list_sum list.list))
