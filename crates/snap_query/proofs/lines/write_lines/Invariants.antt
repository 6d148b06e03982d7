use Rattle.std.proofs.Common.{◌≡◌, ◌+◌, ◌*◌, ◌≤◌, length, take, flat_map}
use Rattle.byte_io.specs.Buffers.{HasWritten}
use Rattle.snap_query.proofs.lines.write_lines.Given as goal

abbrev pub invariant-lines : goal.invariant-lines
invariant-lines g l = record {
  failures : g.W.Sink.failure_count l.w ≡ g.W.Sink.failure_count l.initial.w;
  count : l.buffer.taken + length l.buffer.pending ≤ 63 * l.line-index;
  written : HasWritten g.W.Sink.write_takes g.W.Sink.failure_count l.initial.w l.w
      (flat_map g.T.Line.line (take l.line-index l.told)) l.buffer;
}
