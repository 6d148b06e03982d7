use Rattle.std.proofs.Common.{◌∙◌, ap, arith}
use Rattle.hyper_matrix.specs.Counts.{ewise_add, total}
use Rattle.hyper_matrix.specs.Matrix.{Matrix}
use Rattle.batch_store.specs.Accepted.{list_sum}
use Rattle.batch_store.specs.Batches.{values}
use Rattle.batch_store.specs.Books.{Listing, list_total, accepted_in}
use Rattle.batch_store.specs.Pieces.{Cut}
use Rattle.snap_report.proofs.FoldLemmas.{fits_all, base_of_all}
use Rattle.batch_store.specs.Pieces.{Cut}
use Rattle.snap_report.proofs.fold.folded.Goals as goal

pub sum_of-requires-clause-fits : goal.sum_of-requires-clause-fits
sum_of-requires-clause-fits c =
    let base = ap (λ (x : Cut). x.whole.counts) c.deref.ensures ∙ ap (λ (l : Listing). l.base.counts) c.list.view_is in
    let batches = ap values c.deref-2.ensures.value ∙ ap (λ (l : Listing). l.list) c.list.view_is in
    omega (
      arith,
      ap total base,
      ap list_total batches,
      fits_all c.args.setup.now (accepted_in c.args.list) c.requires.accepted,
    )

pub invariant_of-result : goal.invariant_of-result
invariant_of-result c =
    let base = ap (λ (x : Cut). x.whole.counts) c.deref.ensures ∙ ap (λ (l : Listing). l.base.counts) c.list.view_is in
    let batches = ap values c.deref-2.ensures.value ∙ ap (λ (l : Listing). l.list) c.list.view_is in
    base_of_all c.args.setup.now (accepted_in c.args.list) _ _ c.requires.accepted
    (ap (λ (m : Matrix). m.counts) c.in_ok-base.ensures ∙ c.in_ok-cells.ensures.sum
    ∙ (λ i. ewise_add (base i) (list_sum (batches i))))
    c.in_ok-folded.ensures
