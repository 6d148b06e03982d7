use Rattle.std.proofs.Common.{◌≡◌, ap, arith, length}
use Rattle.batch_store.specs.Accepted.{count_in}
use Rattle.batch_store.specs.Books.{accepted_in}
use Rattle.snap_file.specs.Snapshots.{Saved}
use Rattle.snap_roll.specs.declared.rolling.Rolling.{Rolling}
use Rattle.snap_roll.proofs.HasLemmas.{passed_on}
use Rattle.snap_roll.proofs.RollLemmas.{folded_count}
use Rattle.snap_roll.proofs.StepLemmas.{first_refused, goes_all, goes_more, goes_none, goes_refused, goes_unread}
use Rattle.snap_roll.proofs.roll.take_all.Goals as goal

pub returns-in_err-rolling-clause-err : goal.returns-in_err-rolling-clause-err
returns-in_err-rolling-clause-err g c =
    let begun = c.in_ok-origin.ensures.begun in
    passed_on c.from_residual-in_err-rolling.result _ c.in_err-rolling.field-0.0
    c.from_residual-in_err-rolling.ensures.1
    (first_refused g.S.SnapshotFiles.load_gives c.args.client c.args.given.now c.args.found c.args.files.now begun.0
    c.window.inside.setup c.in_ok-origin.origin c.in_ok-origin.begun c.load_window.new.files _
    c.in_ok-window.window c.in_err-rolling.field-0.0 begun.1 begun.2
    (ap (λ (y : Saved). y.setup) c.window.view_is) c.requires.some c.number_at-number.ensures c.in_ok-window.ensures.ok
    c.in_err-rolling.ensures.err)

pub windows-init : goal.windows-init
windows-init g c =
    let begun = c.in_ok-origin.ensures.begun in
    let more = c.in_ok-rolling.ensures.ok in
    let list = c.in_ok-origin.begun.list in
    let had : c.len-had.result ≡ count_in (accepted_in list) =
    omega (
      arith,
      c.len-had.ensures,
      ap (λ (r : Rolling). length r.list.folded) c.begun.view_is,
      folded_count (accepted_in list) c.in_ok-origin.ensures.whole.folded,
    ) in
    record {
      whole = c.in_ok-rolling.ensures.whole;
      goes = goes_none g.S.SnapshotFiles.load_gives c.args.client c.args.given.now c.args.found c.args.files.now begun.0
          c.window.inside.setup c.in_ok-origin.origin c.len-had.result c.in_ok-origin.begun c.load_window.new.files
          c.in_ok-rolling.rolling _ more.0 c.in_ok-window.window begun.1 begun.2 had
          (ap (λ (y : Saved). y.setup) c.window.view_is) c.requires.some c.number_at-number.ensures c.in_ok-window.ensures.ok more.1
          c.in_ok-rolling.ensures.setup;
    }

pub returns-in_err-window-2-clause-err : goal.returns-in_err-window-2-clause-err
returns-in_err-window-2-clause-err g c =
    passed_on c.from_residual-in_err-window-2.result _ c.in_err-window-2.field-0.0
    c.from_residual-in_err-window-2.ensures.1
    (goes_unread g.S.SnapshotFiles.load_gives c.args.client c.args.given.now c.args.found c.args.files.now
    c.windows.files c.in_ok-origin.origin c.len-had.result c.windows.rolling c.windows.at
    c.load_window-in-windows.new.files c.in_err-window-2.field-0.0 c.windows.invariant.goes
    c.in_err-window-2.ensures.err)

pub returns-in_err-rolling-2-clause-err : goal.returns-in_err-rolling-2-clause-err
returns-in_err-rolling-2-clause-err g c =
    passed_on c.from_residual-in_err-rolling-2.result _ c.in_err-rolling-2.field-0.0
    c.from_residual-in_err-rolling-2.ensures.1
    (goes_refused g.S.SnapshotFiles.load_gives c.args.client c.args.given.now c.args.found c.args.files.now
    c.windows.files c.in_ok-origin.origin c.len-had.result c.windows.rolling c.windows.at
    c.load_window-in-windows.new.files _ c.in_ok-window-2.window c.in_err-rolling-2.field-0.0
    c.windows.invariant.goes c.windows-test.true c.number_at-number-in-windows.ensures c.in_ok-window-2.ensures.ok c.in_err-rolling-2.ensures.err)

pub windows-preserved : goal.windows-preserved
windows-preserved g c =
    let more = c.in_ok-rolling-2.ensures.ok in
    record {
      whole = c.in_ok-rolling-2.ensures.whole;
      goes = goes_more g.S.SnapshotFiles.load_gives c.args.client c.args.given.now c.args.found c.args.files.now
          c.windows.files c.in_ok-origin.origin c.len-had.result c.windows.rolling c.windows.at
          c.load_window-in-windows.new.files c.in_ok-rolling-2.rolling _ more.0 c.in_ok-window-2.window
          c.windows.invariant.goes c.windows-test.true c.number_at-number-in-windows.ensures c.in_ok-window-2.ensures.ok more.1
          c.in_ok-rolling-2.ensures.setup;
    }

pub returns-clause-ok : goal.returns-clause-ok
returns-clause-ok g c =
    goes_all g.S.SnapshotFiles.load_gives c.args.client c.args.given.now c.args.found c.args.files.now
    c.windows.files c.in_ok-origin.origin c.len-had.result c.windows.rolling c.windows.at c.windows.invariant.goes
    (omega (arith, c.windows-test.false))
