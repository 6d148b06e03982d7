use Rattle.std.proofs.Common.{◌-◌, ◌≤◌, length, take}
use Rattle.byte_io.specs.Writing.{HasTaken}
use Rattle.byte_io.proofs.write.write_all.Given as goal

abbrev pub invariant-loop-done : goal.invariant-loop-done
invariant-loop-done g l = record {
  within : l.done ≤ length l.bytes;
  has_taken : HasTaken g.W.Sink.write_takes g.W.Sink.failure_count l.initial.w l.w (take l.done l.bytes);
}

abbrev pub decreases-loop-done : goal.decreases-loop-done
decreases-loop-done g l = length l.bytes - l.done
