use Rattle.std.proofs.Common.{◌≤◌, subst, sym}
use Rattle.std.specs.Arc.{arc_value}
use Rattle.batch_store.specs.Batches.{Submission}
use Rattle.batch_store.proofs.GrowthLaws.{item_here}
use Rattle.batch_store.proofs.growth.widen_all.Goals as goal

pub widened-requires-clause-rows : goal.widened-requires-clause-rows
widened-requires-clause-rows c =
    let i = c.batches.batch-index in
    let a = c.batch-item.result in
    subst (λ (b : Submission). b.matrix.rows ≤ c.args.setup.now.rows) (sym c.deref.ensures)
    (c.requires i (arc_value a) (item_here c.args.batches.now i a c.batches-test.true c.batch-item.is)).0

pub widened-requires-clause-cols : goal.widened-requires-clause-cols
widened-requires-clause-cols c =
    let i = c.batches.batch-index in
    let a = c.batch-item.result in
    subst (λ (b : Submission). b.matrix.cols ≤ c.args.setup.now.cols) (sym c.deref.ensures)
    (c.requires i (arc_value a) (item_here c.args.batches.now i a c.batches-test.true c.batch-item.is)).1
