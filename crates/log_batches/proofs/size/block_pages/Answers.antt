use Rattle.std.proofs.Common.{◌≡◌, ◌+◌, ap, flat_map, length, sym, ◌∙◌, arith}
use Rattle.std.specs.Int.{w64}
use Rattle.batch_store.specs.Batches.{values}
use Rattle.snap_file.specs.Spelling.{number_bytes, batch_bytes}
use Rattle.log_batches.specs.Payloads.{payload_bytes}
use Rattle.log_batches.proofs.Sizes.{length-payload, pages_of_sum}
use Rattle.log_batches.proofs.Chunks.{length-block}
use Rattle.log_batches.proofs.Filled.{left_from, left_length, left_none}
use Rattle.log_batches.proofs.size.block_pages.Goals as goal

pub loop-batch-init : goal.loop-batch-init
loop-batch-init c =
    let n = length-payload (values c.args.batches.now) in
    record { some = omega arith; within = omega arith; exact = λ _. omega arith }

pub loop-batch-preserved : goal.loop-batch-preserved
loop-batch-preserved c =
    let more = left_length c.args.batches.now c.loop-batch.batch-index c.batch-item.result c.deref.result.now
    c.loop-batch-test.true c.batch-item.is c.deref.ensures in
    let old = c.loop-batch.invariant in
    record {
      some = omega (arith, c.saturating_add-bytes.ensures, old.some);
      within = omega (arith, c.saturating_add-bytes.ensures, c.batch_size.ensures, old.within, more);
      exact = λ low. omega (arith, c.saturating_add-bytes.ensures, c.batch_size.ensures, old.within, old.exact, more);
    }

pub returns-clause-exact : goal.returns-clause-exact
returns-clause-exact c =
    let none = ap length (left_none c.args.batches.now c.loop-batch.batch-index c.loop-batch-test.false) in
    let inv = c.loop-batch.invariant in
    pages_of_sum c.loop-batch.bytes (length (left_from c.loop-batch.batch-index c.args.batches.now))
    (length (payload_bytes (values c.args.batches.now))) none (omega arith) inv.within inv.exact

pub returns-clause-few : goal.returns-clause-few
returns-clause-few c = λ low.
    let none = ap length (left_none c.args.batches.now c.loop-batch.batch-index c.loop-batch-test.false) in
    let n = length-block (values c.args.batches.now) in
    let inv = c.loop-batch.invariant in
    omega (arith, inv.some, inv.within, inv.exact)

pub returns-clause-many : goal.returns-clause-many
returns-clause-many c = λ high.
    let none = ap length (left_none c.args.batches.now c.loop-batch.batch-index c.loop-batch-test.false) in
    let n = length-block (values c.args.batches.now) in
    let inv = c.loop-batch.invariant in
    omega (arith, inv.some, inv.within)
