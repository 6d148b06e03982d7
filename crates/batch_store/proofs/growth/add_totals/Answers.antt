use Rattle.std.proofs.Common.{◌+◌, ap, ◌∙◌, arith}
use Rattle.batch_store.specs.declared.verdict.Entry.{Entry}
use Rattle.batch_store.specs.Batches.{Submission, batch_total}
use Rattle.batch_store.proofs.GrowthLaws.{totals_more, totals_part}
use Rattle.batch_store.proofs.growth.add_totals.Goals as goal

pub overflow_add-total : goal.overflow_add-total
overflow_add-total c =
    let items = c.args.batches.now in
    let i = c.batches.batch-index in
    let more = totals_more items i c.batch-item.result c.batches-test.true c.batch-item.is in
    let all = totals_part items (i + 1) in
    let here = ap (λ (e : Entry). e.total) c.entry-total.ensures ∙ ap (λ (b : Submission). batch_total b) c.deref.ensures in
    omega (arith, more, all, here, c.batches.invariant.told, c.requires)

pub batches-preserved : goal.batches-preserved
batches-preserved c =
    let more = totals_more c.args.batches.now c.batches.batch-index c.batch-item.result c.batches-test.true
    c.batch-item.is in
    let here = ap (λ (e : Entry). e.total) c.entry-total.ensures ∙ ap (λ (b : Submission). batch_total b) c.deref.ensures in
    record { told = omega (arith, more, here, c.batches.invariant.told) }
