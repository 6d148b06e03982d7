use Rattle.std.proofs.Common.{List, length, subst}
use Rattle.batch_store.specs.declared.verdict.Entry.{Entry}
use Rattle.batch_store.specs.Accepted.{Accepted}
use Rattle.batch_store.specs.Growth.{given_over}
use Rattle.batch_store.specs.Setups.{Setting}
use Rattle.batch_store.specs.Verdicts.{total_of_entries}
use Rattle.byte_io.specs.Writing.{HasTaken}
use Rattle.snap_file.specs.Snapshots.{Saved}
use Rattle.snap_file.specs.declared.origin.Origin.{Origin}
use Rattle.snap_report.specs.Folds.{both_origin, fold_line}
use Rattle.snap_report.specs.Kept.{folded_in}
use Rattle.snap_report.specs.Logged.{AreJoined, Checked}
use Rattle.snap_report.specs.Made.{IsMade}
use Rattle.snap_report.proofs.LoggedLemmas.{on_ok_both}
use Rattle.snap_report.proofs.fold_made.run_fold_with_log.Goals as goal

pub returns-clause-made : goal.returns-clause-made
returns-clause-made g c =
    let logged = c.in_ok-known.logged in
    let both = c.in_ok-both.both in
    let x : Checked = record { known = c.in_ok-known.known; log = logged; list = both } in
    let joined = subst (λ (y : Saved). AreJoined y logged both) c.known.view_is
    (c.in_ok-both.ensures.book, c.in_ok-both.ensures.joined) in
    let fitted = c.in_ok-fitted.ensures in
    on_ok_both c.make_fold.result (λ made written. (
      x,
      (c.in_ok-known.ensures.read, joined),
      subst (λ (y : Saved). IsMade g.N.NewSnapshot.make_gives c.args.new.now c.make_fold.new.new
          (both_origin y.origin.identity logged.head.identity) (given_over c.args.numbers.now y.setup) (folded_in both))
          c.known.view_is
          (subst (λ (o : Origin). IsMade g.N.NewSnapshot.make_gives c.args.new.now c.make_fold.new.new o
          (given_over c.args.numbers.now c.known.inside.setup) (folded_in both)) c.origin_of_both-whose.ensures
          (subst (λ (v : Setting). IsMade g.N.NewSnapshot.make_gives c.args.new.now c.make_fold.new.new
          c.origin_of_both-whose.result v (folded_in both)) c.over-to.ensures
          (subst (λ (a : Accepted). IsMade g.N.NewSnapshot.make_gives c.args.new.now c.make_fold.new.new
          c.origin_of_both-whose.result c.over-to.result a) fitted.folded made))),
      subst (λ (es : List Entry). HasTaken g.W.Sink.write_takes g.W.Sink.failure_count c.args.w.now c.make_fold.new.w
          (fold_line (length es) (total_of_entries es))) fitted.entries written,
    )) c.make_fold.ensures.made c.make_fold.ensures.written
