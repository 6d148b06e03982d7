use Rattle.snap_report.proofs.JoinedLemmas.{unread_file}
use Rattle.hhm.proofs.inputs.load_named.Goals as goal

pub returns-in_err-snapshot : goal.returns-in_err-snapshot
returns-in_err-snapshot g c =
    unread_file c.from_residual.result c.in_err-snapshot.field-0.0 c.from_residual.ensures.1
    c.in_err-snapshot.ensures.memory
