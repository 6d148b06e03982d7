use Rattle.std.proofs.Common.{◌≡◌, rules}
use Rattle.std.specs.Prelude.{false}
use Rattle.log_disk.proofs.memory.MemoryDiskLogDisk.fill.Goals as goal

pub returns-then-next_fails-clause-tells : goal.returns-then-next_fails-clause-tells
returns-then-next_fails-clause-tells c =
    let working : c.args.self.now.calls.in_doubt ≡ false = search rules in
    λ t sound. c.write_perhaps.ensures.pending (t working)

pub returns-then-is_err-clause-tells : goal.returns-then-is_err-clause-tells
returns-then-is_err-clause-tells c =
    let working : c.args.self.now.calls.in_doubt ≡ false = search rules in
    λ t sound. c.write.ensures.pending (t working)

pub returns-clause-tells : goal.returns-clause-tells
returns-clause-tells c =
    let working : c.args.self.now.calls.in_doubt ≡ false = search rules in
    λ t sound. c.write.ensures.pending (t working)
