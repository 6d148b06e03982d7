use Rattle.std.proofs.Common.{ℕ, subst}
use Rattle.log_start.specs.Found.{IsRefused}
use Rattle.log_start.proofs.read.read_file.Goals as goal

pub returns-in-Err-clause-err : goal.returns-in-Err-clause-err
returns-in-Err-clause-err g c = (
  c.read_source.new.source.disk.now,
  subst (λ (n : ℕ). IsRefused g.D.LogDisk c.args.disk.now
      c.read_source.new.source.disk.now n c.in-Err.fault)
      c.new-source.ensures.end
      (subst (λ d. IsRefused g.D.LogDisk d
      c.read_source.new.source.disk.now c.new-source.result.end c.in-Err.fault)
      c.new-source.ensures.disk c.in-Err.ensures.err),
)
