use Rattle.std.proofs.Common.{◌≡◌, ◌++◌, ◌+◌, length, drop, rules}
use Rattle.log_disk.proofs.MemoryLemmas.{overwritten_holds}
use Rattle.log_disk.proofs.bytes.overwritten.Goals as goal

pub returns : goal.returns
returns c =
    let is : c.extend_from_slice-2.new.self.items ≡ c.in_ok-new.new.items ++ c.args.bytes.now ++ drop
    (c.args.at + length c.args.bytes.now) c.args.old.now = search rules in
    overwritten_holds c.in_ok-new.new.items c.args.bytes.now c.args.old.now c.extend_from_slice-2.new.self.items
    c.args.at c.in_ok-new.ensures is
