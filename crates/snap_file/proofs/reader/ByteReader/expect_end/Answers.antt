use Rattle.std.proofs.Common.{arith}
use Rattle.snap_file.specs.Table.{end}
use Rattle.snap_file.specs.Outcomes.{snapshot_task}
use Rattle.snap_file.proofs.EndLemmas.{reads_whole, fails_at_end, stops_extra, stops_over}
use Rattle.snap_file.proofs.reader.ByteReader.expect_end.Goals as goal

pub returns-in-Err-clause-err : goal.returns-in-Err-clause-err
returns-in-Err-clause-err g c = λ s m k h.
    let x = c.in-Err.ensures.err in
    rw x.0 (fails_at_end {S = g.row.R.Denot} g.R.Source.read_gives g.R.Source.failure_count
    (g.R.Source.at_end c.need.new.r) m s c.need.new.r k (x.1 s (snapshot_task m) (end k) h))

pub returns-in-Ok-false-clause-ok : goal.returns-in-Ok-false-clause-ok
returns-in-Ok-false-clause-ok g c = λ s m k h.
    reads_whole {S = g.row.R.Denot} g.R.Source.read_gives g.R.Source.failure_count
    (g.R.Source.at_end c.need.new.r) m s c.need.new.r c.need.new.self k
    (c.in-Ok-false.ensures.ended c.in-Ok-false.field-0-test s (snapshot_task m) (end k) h)
    (c.in-Ok-false.ensures.no c.in-Ok-false.field-0-test)

pub returns-then-room-eq0-clause-err : goal.returns-then-room-eq0-clause-err
returns-then-room-eq0-clause-err g c = λ s m k h.
    stops_over {S = g.row.R.Denot} g.R.Source.read_gives g.R.Source.failure_count
    (g.R.Source.at_end c.need.new.r) m s c.need.new.r c.need.new.self k
    (c.in-Ok-true.ensures.read c.in-Ok-true.field-0-test s (snapshot_task m) (end k) h).has_read
    (c.in-Ok-true.ensures.yes c.in-Ok-true.field-0-test)
    (omega (arith, c.if-room-eq0.true, c.room-room.ensures, c.in-Ok-true.ensures.taken, c.in-Ok-true.ensures.limit))

pub returns-else-room-eq0-clause-err : goal.returns-else-room-eq0-clause-err
returns-else-room-eq0-clause-err g c = λ s m k h.
    stops_extra {S = g.row.R.Denot} g.R.Source.read_gives g.R.Source.failure_count
    (g.R.Source.at_end c.need.new.r) m s c.need.new.r c.need.new.self k
    (c.in-Ok-true.ensures.read c.in-Ok-true.field-0-test s (snapshot_task m) (end k) h).has_read
    (c.in-Ok-true.ensures.yes c.in-Ok-true.field-0-test)
    (omega (
      arith,
      c.if-room-eq0.false,
      c.room-room.ensures,
      c.in-Ok-true.ensures.taken,
      c.in-Ok-true.ensures.limit,
    ))
