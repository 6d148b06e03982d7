use Rattle.std.proofs.Common.{◌≡◌, ◌+◌, ◌*◌, ◌≤◌, length, take, flat_map}
use Rattle.byte_io.specs.Buffers.{HasWritten}
use Rattle.snap_export.specs.Labels.{label_line}
use Rattle.snap_export.proofs.label_lines.write_labels.Given as goal

abbrev pub invariant-labels : goal.invariant-labels
invariant-labels g l = record {
  failures : g.W.Sink.failure_count l.w ≡ g.W.Sink.failure_count l.initial.w;
  count : l.buffer.taken + length l.buffer.pending ≤ 21 * l.label-index;
  written : HasWritten g.W.Sink.write_takes g.W.Sink.failure_count l.initial.w l.w
      (flat_map label_line (take l.label-index l.labels)) l.buffer;
}
