use Rattle.std.proofs.Common.{ap, subst, sym, ◌∙◌}
use Rattle.batch_store.specs.Books.{accepted_in}
use Rattle.snap_file.specs.Snapshots.{Saved}
use Rattle.snap_report.specs.Forks.{IsForked}
use Rattle.snap_report.specs.Logged.{AreJoined, Checked}
use Rattle.snap_report.proofs.LoggedLemmas.{on_ok_both}
use Rattle.snap_report.proofs.fork.run_fork_with_log.Goals as goal

pub returns-clause-made : goal.returns-clause-made
returns-clause-made g c =
    let known = c.in_ok-known.known in
    let both = c.in_ok-both.both in
    let x : Checked = record { known = known; log = c.in_ok-known.logged; list = both } in
    let joined = subst (λ (y : Saved). AreJoined y c.in_ok-known.logged both) c.known.view_is
    (c.in_ok-both.ensures.book, c.in_ok-both.ensures.joined) in
    on_ok_both c.make_fork.result (λ made written. (
      x,
      (c.in_ok-known.ensures.read, joined),
      ap (λ (y : Saved). y.origin.identity.window) (sym c.known.view_is) ∙ c.in_ok-judge_window.ensures.ok,
      subst (λ (y : Saved). IsForked g.N.NewSnapshot.make_gives c.args.new.now c.make_fork.new.new c.args.book y.setup
          (accepted_in both)) c.known.view_is made,
      written,
    )) c.make_fork.ensures.made c.make_fork.ensures.written
