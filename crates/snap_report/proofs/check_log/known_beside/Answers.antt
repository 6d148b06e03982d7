use Rattle.snap_report.proofs.LoggedLemmas.{none_saved}
use Rattle.snap_report.proofs.check_log.known_beside.Goals as goal

pub invariant_of-result : goal.invariant_of-result
invariant_of-result c =
    none_saved c.args.head.now.setup c.in_ok-list-in-None.list c.in_ok-list-in-None.ensures.sound
    c.in_ok-list-in-None.ensures.empty
