use Rattle.std.proofs.Common.{ap, sym, ◌∙◌, arith}
use Rattle.hyper_matrix.specs.Counts.{total}
use Rattle.batch_store.specs.Accepted.{total_in}
use Rattle.batch_store.specs.Batches.{entries_of, values}
use Rattle.batch_store.specs.Books.{Listing, accepted_in, list_total}
use Rattle.batch_store.specs.Pieces.{Cut}
use Rattle.batch_store.proofs.VerdictLaws.{total_of-append}
use Rattle.batch_store.proofs.growth.total_of.Goals as goal

pub add_totals-requires : goal.add_totals-requires
add_totals-requires c =
    let folded = c.list.inside.folded.items in
    let list = values c.list.inside.batches.items in
    let whole = ap (λ (v : Listing). total_in (accepted_in v)) (sym c.list.view_is) ∙ total_of-append folded
    (entries_of list) in
    let base = ap (λ (x : Cut). total x.whole.counts) c.deref.ensures in
    let batches = ap (λ l. list_total (values l)) c.deref-2.ensures.value in
    omega (arith, whole, base, batches, c.total.ensures.value, c.list.invariant.adds_up, c.requires)

pub returns : goal.returns
returns c =
    let folded = c.list.inside.folded.items in
    let list = values c.list.inside.batches.items in
    let whole = ap (λ (v : Listing). total_in (accepted_in v)) (sym c.list.view_is) ∙ total_of-append folded
    (entries_of list) in
    let base = ap (λ (x : Cut). total x.whole.counts) c.deref.ensures in
    let batches = ap (λ l. list_total (values l)) c.deref-2.ensures.value in
    omega (arith, whole, base, batches, c.total.ensures.value, c.list.invariant.adds_up, c.add_totals.ensures)
