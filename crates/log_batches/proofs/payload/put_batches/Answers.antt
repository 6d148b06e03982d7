use Rattle.std.proofs.Common.{◌≡◌, ◌∙◌, ap, take, flat_map, length, [], refl, arith}
use Rattle.batch_store.specs.Batches.{values}
use Rattle.snap_file.specs.Spelling.{batch_bytes}
use Rattle.log_batches.proofs.Filled.{left_from, left_length, left_none, batch_put, all_put}
use Rattle.log_batches.proofs.payload.put_batches.Goals as goal

pub loop-batch-init : goal.loop-batch-init
loop-batch-init c = record { counted = refl; long = refl; written = refl }

pub put_batch-end-requires : goal.put_batch-end-requires
put_batch-end-requires c =
    let more = left_length c.args.batches.now c.loop-batch.batch-index c.batch-item.result c.deref.result.now
    c.loop-batch-test.true c.batch-item.is c.deref.ensures in
    omega (arith, more, c.loop-batch.invariant.counted, c.loop-batch.invariant.long)

pub loop-batch-preserved : goal.loop-batch-preserved
loop-batch-preserved c =
    let bs = c.args.batches.now in
    let old = c.loop-batch.invariant in
    let more = left_length bs c.loop-batch.batch-index c.batch-item.result c.deref.result.now c.loop-batch-test.true
    c.batch-item.is c.deref.ensures in
    record {
      counted = omega (arith, more, old.counted, c.put_batch-end.ensures.place);
      long = c.put_batch-end.ensures.len ∙ old.long;
      written = batch_put bs c.loop-batch.batch-index c.batch-item.result c.deref.result.now c.loop-batch-test.true
          c.batch-item.is c.deref.ensures (take c.args.at c.args.out.now) (take c.loop-batch.end c.loop-batch.out) _
          (flat_map batch_bytes (values bs)) c.put_batch-end.ensures.bytes old.written;
    }

pub returns-clause-place : goal.returns-clause-place
returns-clause-place c =
    let none = ap length (left_none c.args.batches.now c.loop-batch.batch-index c.loop-batch-test.false) in
    omega (arith, none, c.loop-batch.invariant.counted)

pub returns-clause-bytes : goal.returns-clause-bytes
returns-clause-bytes c =
    all_put (take c.args.at c.args.out.now) (take c.loop-batch.end c.loop-batch.out)
    (flat_map batch_bytes (values c.args.batches.now)) (left_from c.loop-batch.batch-index c.args.batches.now)
    (left_none c.args.batches.now c.loop-batch.batch-index c.loop-batch-test.false) c.loop-batch.invariant.written
