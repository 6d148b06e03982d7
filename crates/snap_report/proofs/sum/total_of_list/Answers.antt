use Rattle.std.proofs.Common.{◌≡◌, ap, ◌∙◌, arith}
use Rattle.hyper_matrix.specs.Counts.{total}
use Rattle.batch_store.proofs.SumLaws.{total-summed}
use Rattle.batch_store.specs.Batches.{values}
use Rattle.batch_store.specs.Books.{Listing, list_total, accepted_in}
use Rattle.batch_store.specs.Pieces.{Cut}
use Rattle.snap_file.proofs.Kept.{total_parts}
use Rattle.snap_report.proofs.sum.total_of_list.Goals as goal

pub total_of-requires : goal.total_of-requires
total_of-requires c =
    let list = c.args.list.now in
    let batches : list_total (values c.deref-2.result.now) ≡ list_total list.list =
    ap (λ l. list_total (values l)) c.deref-2.ensures.value ∙ ap (λ (v : Listing). list_total v.list) c.list.view_is in
    omega (
      arith,
      batches,
      total_parts (accepted_in list),
      c.requires.accepted.within,
      c.requires.accepted.sound.fits,
    )

pub overflow_add-result : goal.overflow_add-result
overflow_add-result c =
    let list = c.args.list.now in
    let base : total c.deref.result.now.whole.counts ≡ total list.base.counts = ap (λ (x : Cut). total x.whole.counts)
    c.deref.ensures ∙ ap (λ (v : Listing). total v.base.counts) c.list.view_is in
    let batches : list_total (values c.deref-2.result.now) ≡ list_total list.list =
    ap (λ l. list_total (values l)) c.deref-2.ensures.value ∙ ap (λ (v : Listing). list_total v.list) c.list.view_is in
    omega (
      arith,
      base,
      batches,
      c.total.ensures.value,
      c.total_of.ensures,
      total_parts (accepted_in list),
      c.requires.accepted.within,
      c.requires.accepted.sound.fits,
      c.requires.accepted.based.adds_up,
    )

pub returns : goal.returns
returns c =
    let list = c.args.list.now in
    let base : total c.deref.result.now.whole.counts ≡ total list.base.counts = ap (λ (x : Cut). total x.whole.counts)
    c.deref.ensures ∙ ap (λ (v : Listing). total v.base.counts) c.list.view_is in
    let batches : list_total (values c.deref-2.result.now) ≡ list_total list.list =
    ap (λ l. list_total (values l)) c.deref-2.ensures.value ∙ ap (λ (v : Listing). list_total v.list) c.list.view_is in
    omega (
      arith,
      base,
      batches,
      c.total.ensures.value,
      c.total_of.ensures,
      total_parts (accepted_in list),
      total-summed (accepted_in list) c.requires.accepted.based,
      c.requires.accepted.based.adds_up,
    )
