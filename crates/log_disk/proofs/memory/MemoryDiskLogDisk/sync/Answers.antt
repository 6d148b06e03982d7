use Rattle.std.proofs.Common.{◌≡◌, rules}
use Rattle.std.specs.Prelude.{false}
use Rattle.log_disk.proofs.memory.MemoryDiskLogDisk.sync.Goals as goal

pub returns-then-next_fails-clause-crash : goal.returns-then-next_fails-clause-crash
returns-then-next_fails-clause-crash c =
    let working : c.args.self.now.calls.in_doubt ≡ false = search rules in
    λ t. c.sync_some.ensures.crash (t working)

pub returns-then-is_err-clause-crash : goal.returns-then-is_err-clause-crash
returns-then-is_err-clause-crash c =
    let working : c.args.self.now.calls.in_doubt ≡ false = search rules in
    λ t. c.sync.ensures.crash (t working)

pub returns-clause-crash : goal.returns-clause-crash
returns-clause-crash c =
    let working : c.args.self.now.calls.in_doubt ≡ false = search rules in
    λ t. c.sync.ensures.crash (t working)
