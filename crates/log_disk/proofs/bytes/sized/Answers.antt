use Rattle.std.proofs.Common.{arith}
use Rattle.log_disk.proofs.bytes.sized.Goals as goal

pub returns : goal.returns
returns c = record {
  long = omega (arith, c.loop-i.invariant.long);
  same = λ i lt. c.loop-i.invariant.same i
      (omega arith);
}
