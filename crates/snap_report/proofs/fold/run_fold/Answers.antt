use Rattle.std.proofs.Common.{ℕ, subst}
use Rattle.std.proofs.lemmas.Result.{on_ok_weaker}
use Rattle.byte_io.specs.Writing.{HasTaken, HasStopped}
use Rattle.batch_store.specs.Accepted.{count_in}
use Rattle.batch_store.specs.Books.{accepted_in}
use Rattle.snap_report.specs.Folds.{fold_line}
use Rattle.snap_report.proofs.fold.run_fold.Goals as goal

pub returns-clause-ok : goal.returns-clause-ok
returns-clause-ok g c =
    let told = c.in_ok-batches.ensures.ok in
    on_ok_weaker c.write_line.result (λ h. (
      told.0,
      told.1,
      subst (λ (n : ℕ). HasTaken g.W.Sink.write_takes g.W.Sink.failure_count c.args.w.now c.write_line.new.w
          (fold_line (count_in (accepted_in told.0.list)) n)) told.3
          (subst (λ (n : ℕ). HasTaken g.W.Sink.write_takes g.W.Sink.failure_count c.args.w.now c.write_line.new.w
          (fold_line n c.in_ok-batches.total)) told.2 h),
    )) c.write_line.ensures.ok

pub returns-clause-output : goal.returns-clause-output
returns-clause-output g c = λ fault is.
    let told = c.in_ok-batches.ensures.ok in (
      told.0,
      told.1,
      subst (λ (n : ℕ). HasStopped g.W.Sink.write_takes g.W.Sink.failure_count c.args.w.now c.write_line.new.w
          (fold_line (count_in (accepted_in told.0.list)) n) fault.written) told.3
          (subst (λ (n : ℕ). HasStopped g.W.Sink.write_takes g.W.Sink.failure_count c.args.w.now c.write_line.new.w
          (fold_line n c.in_ok-batches.total) fault.written) told.2 (c.write_line.ensures.output fault is)),
    )
