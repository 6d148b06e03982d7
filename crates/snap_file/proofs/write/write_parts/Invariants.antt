use Rattle.std.proofs.Common.{◌≡◌, ◌≤◌, ◌+◌, ◌*◌, ◌^◌, length, drop}
use Rattle.snap_file.specs.Spelling.{file}
use Rattle.snap_file.proofs.BatchLemmas.{IsBeforeBatches}
use Rattle.batch_store.specs.Accepted.{accepted}
use Rattle.batch_store.specs.Batches.{values}
use Rattle.snap_file.proofs.write.write_parts.Given as goal

abbrev pub invariant-loop-batch : goal.invariant-loop-batch
invariant-loop-batch g l = record {
  failures : g.W.Sink.failure_count l.w ≡ g.W.Sink.failure_count l.fn.w;
  counted : l.writer.taken + length l.writer.pending ≤ 147 + 2 ^ 73 + 2 ^ 71 * l.batch-index;
  written : IsBeforeBatches {S = g.row.W.Denot} g.W.Sink.write_takes g.W.Sink.failure_count l.fn.w l.w
      (file l.fn.origin l.setup (accepted l.base.whole.counts l.folded (values l.batches))) l.writer
      (values (drop l.batch-index l.batches));
}
