use Rattle.std.proofs.Common.{◌++◌, List, ℕ, ap, ◌∙◌}
use Rattle.batch_store.specs.Batches.{values}
use Rattle.log_read.specs.Logs.{batches_in}
use Rattle.snap_report.specs.Kept.{most_bytes}
use Rattle.snap_report.specs.Checks.{fault_of_join}
use Rattle.snap_report.specs.Logged.{IsJoinTold, log_line}
use Rattle.snap_report.proofs.LoggedLemmas.{read_dims, read_pages, joined_lines, joined_refused, passed_on}
use Rattle.snap_report.proofs.check_log.lines_of.Goals as goal

pub join_log-requires-clause-dims : goal.join_log-requires-clause-dims
join_log-requires-clause-dims c =
    read_dims most_bytes c.args.logged.now (values c.deref-2.result.now) c.requires
    (ap values c.deref-2.ensures.value ∙ c.in_ok-batches.ensures ∙ ap batches_in c.deref.ensures.value)

pub push_log-requires-clause-pages : goal.push_log-requires-clause-pages
push_log-requires-clause-pages c = read_pages c.args.logged.now c.requires

pub returns-clause-ok : goal.returns-clause-ok
returns-clause-ok c =
    joined_lines c.known.inside.origin c.known.inside.setup c.known.inside.list c.args.known c.known.view_is c.args.logged.now
    (values c.deref-2.result.now)
    (ap values c.deref-2.ensures.value ∙ c.in_ok-batches.ensures ∙ ap batches_in c.deref.ensures.value)
    c.in_ok-both.both c.push_log.new.line.bytes c.in_ok-both.ensures.book c.in_ok-both.ensures.ok
    (c.push_log.ensures ∙ ap (λ (l : List ℕ). l ++ log_line c.args.logged.now) c.in_ok-line.ensures.bytes)

pub returns-in_err-both-clause-err : goal.returns-in_err-both-clause-err
returns-in_err-both-clause-err c =
    passed_on c.from_residual-in_err-both.result (IsJoinTold c.args.known c.args.logged.now)
    (fault_of_join c.in_err-both.field-0.0) c.from_residual-in_err-both.ensures.1
    (joined_refused c.known.inside.origin c.known.inside.setup c.known.inside.list c.args.known c.known.view_is
    c.args.logged.now (values c.deref-2.result.now)
    (ap values c.deref-2.ensures.value ∙ c.in_ok-batches.ensures ∙ ap batches_in c.deref.ensures.value)
    c.in_err-both.field-0.0 c.in_err-both.ensures.err)
