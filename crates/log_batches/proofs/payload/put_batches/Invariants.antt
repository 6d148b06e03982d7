use Rattle.std.proofs.Common.{◌≡◌, ◌+◌, ◌++◌, length, take, flat_map}
use Rattle.batch_store.specs.Batches.{values}
use Rattle.snap_file.specs.Spelling.{batch_bytes}
use Rattle.log_batches.proofs.Filled.{left_from}
use Rattle.log_batches.proofs.payload.put_batches.Given as goal

abbrev pub invariant-loop-batch : goal.invariant-loop-batch
invariant-loop-batch l = record {
  counted : l.end + length (left_from l.batch-index l.batches) ≡ l.at + length
      (flat_map batch_bytes (values l.batches));
  long : length l.out ≡ length l.fn.out;
  written : take l.end l.out ++ left_from l.batch-index l.batches ≡
      take l.at l.fn.out ++ flat_map batch_bytes (values l.batches);
}
