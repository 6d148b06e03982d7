use Rattle.std.proofs.Common.{arith, ◌+◌}
use Rattle.snap_file.proofs.BatchLemmas.{total_more, total_fits}
use Rattle.snap_report.proofs.check.total_of.Goals as goal

pub overflow_add-sum : goal.overflow_add-sum
overflow_add-sum c =
    let more = total_more c.args.batches.now c.loop-batch.batch-index c.batch-item.result c.deref.result.now
    c.loop-batch-test.true c.batch-item.is c.deref.ensures in
    let all = total_fits c.args.batches.now (c.loop-batch.batch-index + 1) in
    omega (arith, more, all, c.total_of_one-sum.ensures, c.loop-batch.invariant, c.requires)

pub loop-batch-preserved : goal.loop-batch-preserved
loop-batch-preserved c =
    let more = total_more c.args.batches.now c.loop-batch.batch-index c.batch-item.result c.deref.result.now
    c.loop-batch-test.true c.batch-item.is c.deref.ensures in
    omega (arith, more, c.total_of_one-sum.ensures, c.loop-batch.invariant)
