use Rattle.std.proofs.Common.{◌≤◌, List, length, ap, subst, arith}
use mathlib.Core.List.{IsPrefix}
use Rattle.batch_store.specs.declared.verdict.Entry.{Entry}
use Rattle.plain_engine.specs.declared.status.Status.{Status}
use Rattle.socket_server.proofs.SeatLaws.{within_all, begins_whole}
use Rattle.socket_server.proofs.opened.SharedLog.learn.Goals as goal

-- what is durable is no longer than what the first seat was shown, and so begins that
pub returns-clause-within : goal.returns-clause-within
returns-clause-within g c =
    let known = c.stored-stored.new.known in
    let count = ap (λ (s : Status). s.batches) c.status-status.ensures.status in
    let fits : length known ≤ length c.version.result
    = omega (arith, c.if-count-status.false, c.count.ensures, count, ap length c.version.ensures) in
    within_all c.args.seats.now c.status-status.new.seat known c.in-Some.ensures.item.3.0
    (subst (λ (v : List Entry). IsPrefix known v) c.version.ensures
    (begins_whole known c.version.result (c.begins-2.ensures fits)))
