use Rattle.std.proofs.Common.{List, length, Ok, Err, subst}
use Rattle.batch_store.specs.declared.verdict.Entry.{Entry}
use Rattle.batch_store.specs.Accepted.{Accepted}
use Rattle.batch_store.specs.Setups.{Setting}
use Rattle.batch_store.specs.Verdicts.{total_of_entries}
use Rattle.byte_io.specs.Writing.{HasTaken}
use Rattle.snap_file.specs.Snapshots.{saved}
use Rattle.snap_report.specs.Folds.{fold_line}
use Rattle.snap_report.specs.Kept.{folded_in}
use Rattle.snap_report.specs.Made.{IsMade}
use Rattle.snap_report.proofs.KeptLemmas.{alone, has_loaded}
use Rattle.snap_report.proofs.LoggedLemmas.{on_ok_both}
use Rattle.snap_report.proofs.fold_made.run_fold_to.Goals as goal

pub returns-clause-made : goal.returns-clause-made
returns-clause-made g c =
    let o = c.setup.inside.origin in
    let s = c.setup.inside.setup in
    let l = c.setup.inside.list in
    let fitted = c.in_ok-fitted.ensures in
    on_ok_both c.make_fold.result (λ made written. (
      saved o s l,
      has_loaded g.F.SnapshotFile.load_gives c.args.file.now c.load.new.self o s l c.in-Ok.snapshot c.setup.view_is
          c.in-Ok.ensures.answer c.setup.invariant.kept.accepted,
      alone c.args.numbers.now o s c.over-to.result l c.over-to.ensures
          (c.needs_log.ensures.alone c.if-needs_log.false),
      subst (λ (v : Setting). IsMade g.N.NewSnapshot.make_gives c.args.new.now c.make_fold.new.new o v (folded_in l))
          c.over-to.ensures
          (subst (λ (a : Accepted). IsMade g.N.NewSnapshot.make_gives c.args.new.now c.make_fold.new.new o
          c.over-to.result a) fitted.folded made),
      subst (λ (es : List Entry). HasTaken g.W.Sink.write_takes g.W.Sink.failure_count c.args.w.now c.make_fold.new.w
          (fold_line (length es) (total_of_entries es))) fitted.entries written,
    )) c.make_fold.ensures.made c.make_fold.ensures.written
