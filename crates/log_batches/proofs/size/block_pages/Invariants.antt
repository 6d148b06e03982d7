use Rattle.std.proofs.Common.{◌≡◌, ◌+◌, ◌-◌, ◌^◌, ◌<◌, ◌≤◌, length}
use Rattle.batch_store.specs.Batches.{values}
use Rattle.log_batches.specs.Payloads.{payload_bytes}
use Rattle.log_batches.proofs.Filled.{left_from}
use Rattle.log_batches.proofs.size.block_pages.Given as goal

abbrev pub invariant-loop-batch : goal.invariant-loop-batch
invariant-loop-batch l = record {
  some : 8 ≤ l.bytes;
  within : l.bytes + length (left_from l.batch-index l.batches) ≤ length (payload_bytes (values l.batches));
  exact : l.bytes < 2 ^ 64 - 1 →
      l.bytes + length (left_from l.batch-index l.batches) ≡ length (payload_bytes (values l.batches));
}
