use Rattle.std.proofs.Common.{inr, arith}
use Rattle.std.proofs.lemmas.Result.{err_from_is_err_and}
use Rattle.log_read.specs.declared.scan.LogScan.{LogScan}
use Rattle.log_read.proofs.ComeLemmas.{come_step, bad_step, bad_page}
use Rattle.log_read.proofs.scan.LogScan.take.Goals as goal

pub returns-in-Ok-clause-ok : goal.returns-in-Ok-clause-ok
returns-in-Ok-clause-ok c = λ first pages has.
    let new : LogScan = record {
      reader = c.keep.new.reader;
      scan = c.take_page.new.self;
      chunks = c.keep.new.chunks;
      blocks = c.keep.new.blocks;
    } in
    come_step first c.args.self.now new pages c.args.page.now (omega arith) c.requires.bytes has c.in-Ok.ensures.setup
    c.in_ok-step.step c.last-at.result c.last-at.ensures
    (c.in_ok-step.ensures.ok first has.found has.made pages has.taken) c.in-Ok.ensures.ok

pub returns-in-Err-clause-err : goal.returns-in-Err-clause-err
returns-in-Err-clause-err c =
    bad_step c.args.self.now c.take_page.new.self c.args.page.now (omega arith) c.requires.bytes c.in_ok-step.step
    c.in-Err.kind c.last-at.result c.last-at.ensures
    (λ first pages has. c.in_ok-step.ensures.ok first has.found has.made pages has.taken) c.in-Err.ensures.err

pub returns-in_err-step-clause-err : goal.returns-in_err-step-clause-err
returns-in_err-step-clause-err c =
    let p = err_from_is_err_and c.from_residual.result c.from_residual.ensures.1 in
    rw (p.1, p.2)
    (inr (λ first pages rest has.
    bad_page c.args.self.now c.args.page.now c.in_err-step.field-0.0 first pages rest has
    (λ more. c.in_err-step.ensures.err first has.found has.made pages more has.taken)))
