use Rattle.std.proofs.Common.{ap, ◌∙◌}
use Rattle.hyper_matrix.specs.Counts.{Counts, ewise_add}
use Rattle.hyper_matrix.specs.Matrix.{Matrix}
use Rattle.batch_store.specs.Batches.{Submission}
use Rattle.snap_report.proofs.check.with_batch.Goals as goal

pub returns-clause-sum : goal.returns-clause-sum
returns-clause-sum c =
    ap (λ (m : Matrix). m.counts) c.in_ok-after.ensures
    ∙ ap (λ (x : Counts). ewise_add c.args.layers.counts x) (ap (λ (b : Submission). b.matrix.counts) c.batch.view_is)
