use Rattle.std.proofs.Common.{◌∙◌, ◌++◌, ℕ, List, ap, subst, append_assoc, arith}
use Rattle.log_read.specs.Given.{HasFailed}
use Rattle.log_read.proofs.GivenLemmas.{drained}
use Rattle.log_read.proofs.source.PageSource.drain.Goals as goal

pub returns-in-Err-clause-err : goal.returns-in-Err-clause-err
returns-in-Err-clause-err g c = λ s done at.
    let p = c.pieces.invariant.read s done at in
    subst (λ (n : ℕ). HasFailed {S = g.row.R.Denot} g.R.Source.read_gives g.R.Source.failure_count n s c.skip.new.r
    c.in-Err.kind)
    c.pieces.invariant.limit (c.in-Err.ensures.err s p.done p.at)

pub returns-in-Ok-eq0-clause-ok : goal.returns-in-Ok-eq0-clause-ok
returns-in-Ok-eq0-clause-ok g c = λ s done at.
    let p = c.pieces.invariant.read s done at in
    drained {S = g.row.R.Denot} g.R.Source.read_gives g.R.Source.failure_count (g.R.Source.at_end c.skip.new.r)
    c.args.self.now.max_bytes c.pieces.self.max_bytes s c.pieces.r c.skip.new.r c.pieces.self
    (done ++ c.args.self.now.buffer)
    c.skip.new.self.buffer p c.pieces.invariant.limit (c.in-Ok-eq0.ensures.end (omega arith) s p.done p.at)

pub pieces-preserved : goal.pieces-preserved
pieces-preserved g c = record {
  limit = c.in-Ok.ensures.limit ∙ c.pieces.invariant.limit;
  within = c.in-Ok.ensures.within;
  failures = c.in-Ok.ensures.no_failure ∙ c.pieces.invariant.failures;
  read = λ s done at.
      let p = c.pieces.invariant.read s done at in
      record {
        done = p.done ++ c.pieces.self.buffer;
        more = p.more ++ c.skip.new.self.buffer;
        at = c.in-Ok.ensures.some (omega (arith, c.in-Ok.field-0-test)) s p.done p.at;
        bytes_are = ap (λ (l : List ℕ). l ++ c.skip.new.self.buffer) p.bytes_are
            ∙ append_assoc (done ++ c.args.self.now.buffer) p.more c.skip.new.self.buffer;
      };
}
