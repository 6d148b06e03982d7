use Rattle.std.proofs.Common.{◌≡◌, rules}
use Rattle.std.specs.Prelude.{false}
use Rattle.log_disk.proofs.memory.MemoryDiskLogDisk.write_at.Goals as goal

pub returns-clause-tells : goal.returns-clause-tells
returns-clause-tells c =
    let working : c.args.self.now.calls.in_doubt ≡ false = search rules in
    λ t sound. c.write.ensures.pending (t working)
