use Rattle.std.proofs.Common.{refl}
use Rattle.snap_file.specs.Snapshots.{saved}
use Rattle.snap_report.proofs.KeptLemmas.{has_loaded}
use Rattle.snap_report.proofs.fork.run_fork.Goals as goal

pub returns-clause-made : goal.returns-clause-made
returns-clause-made g c =
    let o = c.setup.inside.origin in
    let s = c.setup.inside.setup in
    let l = c.setup.inside.list in (
      saved o s l,
      has_loaded g.F.SnapshotFile.load_gives c.args.file.now c.load.new.self o s l c.in-Ok.snapshot c.setup.view_is
          c.in-Ok.ensures.answer c.setup.invariant.kept.accepted,
      c.in_ok-judge_window.ensures.ok,
      refl,
      c.in_ok-make_fork.ensures.made,
      c.in_ok-make_fork.ensures.written,
    )
