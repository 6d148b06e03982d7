use Rattle.std.specs.Arc.{arc_value}
use Rattle.snap_report.proofs.LoggedLemmas.{empty_based}
use Rattle.snap_report.proofs.check_log.empty_list.Goals as goal

pub invariant_of-result : goal.invariant_of-result
invariant_of-result c =
    empty_based ((arc_value c.in_ok-one.field-0).whole) c.new-base.result c.rows.result c.cols.result c.new.result.items
    c.in_ok-one.ensures c.new-base.ensures c.new.ensures.items
