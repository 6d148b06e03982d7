use Rattle.std.proofs.Common.{ap, subst, ◌∙◌}
use Rattle.snap_file.specs.Origins.{origin, own}
use Rattle.snap_file.specs.Snapshots.{Saved}
use Rattle.snap_report.specs.Kept.{most_bytes}
use Rattle.snap_report.specs.Logged.{AreJoined, IsJoinTold, IsUnjoined, is_open}
use Rattle.snap_report.specs.declared.fault.CheckFault.TheVariants.{Memory}
use Rattle.snap_report.proofs.JoinedLemmas.{joined_saved, unjoined_empty}
use Rattle.snap_report.proofs.LoggedLemmas.{passed_on}
use Rattle.snap_report.proofs.pair.join_beside.Goals as goal

pub returns-in_err-known-clause-err : goal.returns-in_err-known-clause-err
returns-in_err-known-clause-err c =
    passed_on c.from_residual.result (IsUnjoined c.args.found c.args.logged.now) Memory
    c.from_residual.ensures.1 (unjoined_empty c.args.found c.args.logged.now)

pub returns-in_err-both-clause-err : goal.returns-in_err-both-clause-err
returns-in_err-both-clause-err c =
    passed_on c.from_residual-in_err-both.result (IsUnjoined c.args.found c.args.logged.now) c.in_err-both.field-0.0
    c.from_residual-in_err-both.ensures.1 (record {
      known = c.in_ok-known.known;
      known_is = c.in_ok-known.ensures;
      told = subst (λ (y : Saved). IsJoinTold y c.args.logged.now c.in_err-both.field-0.0) c.known.view_is
          c.in_err-both.ensures.err;
    })

pub invariant_of-result : goal.invariant_of-result
invariant_of-result c =
    joined_saved c.known.inside.setup c.known.inside.list most_bytes c.args.logged.now c.in_ok-both.both
    c.known.invariant c.requires c.in_ok-both.ensures.joined

pub returns-clause-ok : goal.returns-clause-ok
returns-clause-ok c =
    let logged = c.args.logged.now in
    record {
      known = c.in_ok-known.known;
      known_is = c.in_ok-known.ensures;
      joined = subst (λ (y : Saved). AreJoined y logged c.in_ok-both.both) c.known.view_is
          (c.in_ok-both.ensures.book, c.in_ok-both.ensures.joined);
      setup_is = ap (λ (y : Saved). y.setup) c.known.view_is;
      origin_is = c.origin_of_whole.ensures
          ∙ ap (λ (y : Saved).
          origin (own y.origin.identity logged.head.identity y.origin.identity) (is_open y.origin)) c.known.view_is;
    }
