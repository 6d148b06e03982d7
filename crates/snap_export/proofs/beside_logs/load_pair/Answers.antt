use Rattle.std.proofs.Common.{Ok, Option, subst}
use Rattle.log_read.specs.declared.file.LogFile.{LogFile}
use Rattle.snap_report.specs.Kept.{most_bytes}
use Rattle.snap_export.proofs.PairLemmas.{gives_joined, joined_read}
use Rattle.snap_export.proofs.beside_logs.load_pair.Goals as goal

pub returns-in-Some-clause-answer : goal.returns-in-Some-clause-answer
returns-in-Some-clause-answer g c =
    gives_joined g.F.SnapshotFiles.load_gives g.L.LogFiles.read_gives c.args.files.now c.load_if_any.new.files
    c.args.logs.now c.read_next.new.self c.args.max_bytes c.join_beside.result c.in_ok-found.found c.in-Some.log
    c.in_ok-found.ensures.ok
    (subst (λ (o : Option LogFile). g.L.LogFiles.read_gives c.args.logs.now most_bytes (Ok o) c.read_next.new.self)
    c.in-Some.is c.in_ok-log.ensures.answer)
    c.join_beside.ensures.ok c.join_beside.ensures.err

pub returns-in-Some-clause-read : goal.returns-in-Some-clause-read
returns-in-Some-clause-read g c =
    joined_read c.join_beside.result c.in_ok-found.found c.in-Some.log c.join_beside.ensures.err
