use Rattle.std.proofs.Common.{◌≡◌, ◌+◌, refl, arith, ap, ◌∙◌}
use Rattle.std.specs.Arc.{arc_value}
use Rattle.batch_store.specs.declared.verdict.Entry.{Entry}
use Rattle.batch_store.specs.Batches.{Submission, entry_of}
use Rattle.log_desk.proofs.StatusLaws.{status_more, status_fits}
use Rattle.log_desk.proofs.durable.Durable.status_with.Goals as goal

-- one batch more is counted
pub loop-batch-preserved : goal.loop-batch-preserved
loop-batch-preserved g c =
    let status = c.loop-batch.status in
    let total : c.entry.result.total ≡ (entry_of (arc_value c.batch-item.result)).total =
    ap (λ (e : Entry). e.total) (c.entry.ensures ∙ ap (λ (b : Submission). entry_of b) c.deref.ensures) in
    status_more c.args.self.now c.args.batches.now c.loop-batch.batch-index c.batch-item.result c.loop-batch-test.true
    c.batch-item.is status c.loop-batch.invariant (status.batches + 1) (status.total + c.entry.result.total) refl
    (omega (arith, total))

-- the version has all of them, within the limits
pub overflow_add-status : goal.overflow_add-status
overflow_add-status g c =
    let fits = status_fits c.args.self.now c.args.batches.now c.loop-batch.batch-index c.batch-item.result
    c.loop-batch-test.true c.batch-item.is g.N.Named.setup c.args.version.now c.status-whole.ensures.legal c.requires
    c.loop-batch.status c.loop-batch.invariant in
    omega (arith, fits.0)

pub overflow_add-status-in-loop-batch : goal.overflow_add-status-in-loop-batch
overflow_add-status-in-loop-batch g c =
    let total : c.entry.result.total ≡ (entry_of (arc_value c.batch-item.result)).total =
    ap (λ (e : Entry). e.total) (c.entry.ensures ∙ ap (λ (b : Submission). entry_of b) c.deref.ensures) in
    let fits = status_fits c.args.self.now c.args.batches.now c.loop-batch.batch-index c.batch-item.result
    c.loop-batch-test.true c.batch-item.is g.N.Named.setup c.args.version.now c.status-whole.ensures.legal c.requires
    c.loop-batch.status c.loop-batch.invariant in
    omega (arith, fits.1, total)
