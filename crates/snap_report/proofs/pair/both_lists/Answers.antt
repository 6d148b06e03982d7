use Rattle.std.proofs.Common.{ap, refl, ◌∙◌}
use Rattle.batch_store.specs.Batches.{values}
use Rattle.log_read.specs.Logs.{batches_in}
use Rattle.snap_file.specs.Snapshots.{saved}
use Rattle.snap_report.specs.Checks.{fault_of_join}
use Rattle.snap_report.specs.Kept.{most_bytes}
use Rattle.snap_report.specs.Logged.{IsJoinTold}
use Rattle.snap_report.proofs.LoggedLemmas.{joined_refused, passed_on, read_dims}
use Rattle.snap_report.proofs.pair.both_lists.Goals as goal

pub join_log-requires-clause-dims : goal.join_log-requires-clause-dims
join_log-requires-clause-dims c =
    read_dims most_bytes c.args.logged.now (values c.deref-2.result.now) c.requires.read
    (ap values c.deref-2.ensures.value ∙ c.in_ok-batches.ensures ∙ ap batches_in c.deref.ensures.value)

pub returns-in_err-both-clause-err : goal.returns-in_err-both-clause-err
returns-in_err-both-clause-err c =
    let known = saved c.args.origin.now c.args.setup.now c.args.known in
    passed_on c.from_residual-in_err-both.result (IsJoinTold known c.args.logged.now)
    (fault_of_join c.in_err-both.field-0.0) c.from_residual-in_err-both.ensures.1
    (joined_refused c.args.origin.now c.args.setup.now c.args.known known refl c.args.logged.now
    (values c.deref-2.result.now)
    (ap values c.deref-2.ensures.value ∙ c.in_ok-batches.ensures ∙ ap batches_in c.deref.ensures.value)
    c.in_err-both.field-0.0 c.in_err-both.ensures.err)
