use Rattle.std.proofs.Common.{List, ℕ, subst}
use Rattle.std.proofs.lemmas.Result.{on_ok_weaker}
use Rattle.byte_io.specs.Writing.{HasTaken, HasStopped}
use Rattle.snap_report.specs.Logged.{Checked, HasRead, IsLogTold}
use Rattle.snap_report.specs.declared.fault.CheckFault.TheVariants.{Memory}
use Rattle.snap_report.proofs.LoggedLemmas.{no_output, passed_on, empty_refused, output_told, refusal_told}
use Rattle.snap_report.proofs.check_log.run_check_with_log.Goals as goal

pub returns-in_err-known-clause-told : goal.returns-in_err-known-clause-told
returns-in_err-known-clause-told g c =
    passed_on c.from_residual-in_err-known.result
    (IsLogTold g.F.SnapshotFile.load_gives g.L.KeptLog.read_gives c.args.file.now c.load_if_any.new.file
    c.args.log.now c.read.new.self)
    Memory c.from_residual-in_err-known.ensures.1
    (empty_refused g.F.SnapshotFile.load_gives g.L.KeptLog.read_gives c.args.file.now c.load_if_any.new.file
    c.args.log.now c.read.new.self c.in_ok-found.found c.in_ok-logged.logged c.in_ok-found.ensures.ok
    c.in_ok-logged.ensures.answer)

pub returns-in_err-lines-clause-told : goal.returns-in_err-lines-clause-told
returns-in_err-lines-clause-told g c =
    passed_on c.from_residual-in_err-lines.result
    (IsLogTold g.F.SnapshotFile.load_gives g.L.KeptLog.read_gives c.args.file.now c.load_if_any.new.file
    c.args.log.now c.read.new.self)
    c.in_err-lines.field-0.0 c.from_residual-in_err-lines.ensures.1
    (refusal_told g.F.SnapshotFile.load_gives g.L.KeptLog.read_gives c.args.file.now c.load_if_any.new.file
    c.args.log.now c.read.new.self c.in_ok-known.known c.in_ok-logged.logged c.in_err-lines.field-0.0
    (record {
      found = c.in_ok-found.found;
      loaded = c.in_ok-found.ensures.ok;
      read = c.in_ok-logged.ensures.answer;
      known_is = c.in_ok-known.ensures;
    })
    c.in_err-lines.ensures.err)

-- a fault of the log's file is no fault of the output
pub returns-in_err-logged-clause-output : goal.returns-in_err-logged-clause-output
returns-in_err-logged-clause-output g c fault is =
    no_output _ c.from_residual-in_err-logged.result c.in_err-logged.field-0.0 fault
    c.from_residual-in_err-logged.ensures.1 is

pub returns-clause-ok : goal.returns-clause-ok
returns-clause-ok g c =
    let told = c.in_ok-lines.ensures.ok in
    let x : Checked = record { known = c.in_ok-known.known; log = c.in_ok-logged.logged; list = told.0 } in
    let read : HasRead g.F.SnapshotFile.load_gives g.L.KeptLog.read_gives c.args.file.now c.load_if_any.new.file
    c.args.log.now c.read.new.self c.in_ok-known.known c.in_ok-logged.logged = record {
      found = c.in_ok-found.found;
      loaded = c.in_ok-found.ensures.ok;
      read = c.in_ok-logged.ensures.answer;
      known_is = c.in_ok-known.ensures;
    } in
    on_ok_weaker c.write_line.result (λ h. (
      x,
      (read, told.1),
      subst (λ (text : List ℕ). HasTaken g.W.Sink.write_takes g.W.Sink.failure_count c.args.w.now c.write_line.new.w
          text) told.2 h,
    )) c.write_line.ensures.ok

pub returns-clause-told : goal.returns-clause-told
returns-clause-told g c =
    output_told g.F.SnapshotFile.load_gives g.L.KeptLog.read_gives c.args.file.now c.load_if_any.new.file
    c.args.log.now c.read.new.self c.write_line.result c.write_line.ensures.only

pub returns-clause-output : goal.returns-clause-output
returns-clause-output g c fault is =
    let told = c.in_ok-lines.ensures.ok in
    let x : Checked = record { known = c.in_ok-known.known; log = c.in_ok-logged.logged; list = told.0 } in
    let read : HasRead g.F.SnapshotFile.load_gives g.L.KeptLog.read_gives c.args.file.now c.load_if_any.new.file
    c.args.log.now c.read.new.self c.in_ok-known.known c.in_ok-logged.logged = record {
      found = c.in_ok-found.found;
      loaded = c.in_ok-found.ensures.ok;
      read = c.in_ok-logged.ensures.answer;
      known_is = c.in_ok-known.ensures;
    } in (
      x,
      (read, told.1),
      subst (λ (text : List ℕ). HasStopped g.W.Sink.write_takes g.W.Sink.failure_count c.args.w.now
          c.write_line.new.w text fault.written) told.2 (c.write_line.ensures.output fault is),
    )
