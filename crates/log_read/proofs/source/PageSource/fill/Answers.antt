use Rattle.std.proofs.Common.{◌++◌, ◌∙◌, ap, length, length-append, arith}
use Rattle.log_read.proofs.GivenLemmas.{failed_now, too_long, came_more, came_none}
use Rattle.log_read.proofs.source.PageSource.fill.Goals as goal

pub returns-in-Err-clause-err : goal.returns-in-Err-clause-err
returns-in-Err-clause-err g c = λ s done at.
    failed_now {S = g.row.R.Denot} g.R.Source.read_gives g.R.Source.failure_count s c.args.r.now c.fill.new.r
    (done ++ c.args.self.now.buffer) at.given c.args.self.now.max_bytes c.in-Err.field-0 c.in-Err.ensures.err
    c.in-Err.ensures.failure (omega (arith, at.came, c.requires.within))

pub returns-then-self-clause-err : goal.returns-then-self-clause-err
returns-then-self-clause-err g c = λ s done at.
    let f = c.in-Ok.ensures.ok in
    let more = ap length f.pending_is ∙ length-append c.args.self.now.buffer f.bytes in
    let a = length-append done c.args.self.now.buffer in
    let b = length-append done c.fill.new.self in
    too_long {S = g.row.R.Denot} g.R.Source.read_gives g.R.Source.failure_count s c.fill.new.r (done ++ c.fill.new.self)
    c.args.self.now.max_bytes
    (came_more {S = g.row.R.Denot} g.R.Source.read_gives g.R.Source.failure_count s c.args.r.now c.fill.new.r
    c.args.self.now.buffer c.fill.new.self done c.in-Ok.n at.given f
    (omega (arith, c.if-self.true, c.requires.within)) c.in-Ok.ensures.no_failure)
    (omega (
      arith,
      c.if-self.true,
      c.requires.within,
      at.came,
      f.count,
      c.in-Ok.ensures.most,
      more,
      a,
      b,
      c.bytes_wanted-most.ensures.most,
    ))

pub returns-else-self-clause-some : goal.returns-else-self-clause-some
returns-else-self-clause-some g c = λ some s done at.
    let f = c.in-Ok.ensures.ok in
    let more = ap length f.pending_is ∙ length-append c.args.self.now.buffer f.bytes in
    let a = length-append done c.args.self.now.buffer in
    let b = length-append done c.fill.new.self in
    record {
      given = came_more {S = g.row.R.Denot} g.R.Source.read_gives g.R.Source.failure_count s c.args.r.now c.fill.new.r
          c.args.self.now.buffer c.fill.new.self done c.in-Ok.n at.given f some c.in-Ok.ensures.no_failure;
      came = omega (arith, at.came, f.count);
      within = omega (arith, c.if-self.false);
    }

pub returns-else-self-clause-end : goal.returns-else-self-clause-end
returns-else-self-clause-end g c = λ none s done at.
    came_none {S = g.row.R.Denot} g.R.Source.read_gives g.R.Source.failure_count (g.R.Source.at_end c.fill.new.r)
    c.args.self.now.max_bytes s c.args.r.now c.fill.new.r c.args.self.now.buffer c.fill.new.self done c.in-Ok.n at.given
    c.in-Ok.ensures.ok none (c.in-Ok.ensures.end none (c.bytes_wanted-most.ensures.some (omega
    (arith, c.requires.within))))
    c.in-Ok.ensures.no_failure (omega (arith, at.came, c.requires.within))
