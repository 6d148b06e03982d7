use Rattle.std.proofs.Common.{◌≡◌, ◌≤◌, length, arith, rules}
use Rattle.std.specs.Prelude.{min}
use Rattle.log_disk.proofs.MemoryLemmas.{picked_between}
use Rattle.log_disk.proofs.bytes.mixed.Goals as goal

pub returns : goal.returns
returns c =
    let least : min (length c.args.one.now) (length c.args.other.now) ≤ c.length_between-len.result = search rules in
    let long : length c.loop-i.new.items ≡ c.length_between-len.result = omega (arith, c.loop-i.invariant.long) in
    picked_between c.args.one.now c.args.other.now c.loop-i.new.items c.length_between-len.result least long
    (λ k lt. c.loop-i.invariant.picked k (omega arith))
