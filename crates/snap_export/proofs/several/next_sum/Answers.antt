use Rattle.std.proofs.Common.{◌≡◌, true, false, refl, inr}
use Rattle.snap_export.specs.declared.fault.ExportFault.TheVariants.{Memory}
use Rattle.snap_export.proofs.SavedLemmas.{passed_on}
use Rattle.snap_export.proofs.SeveralLemmas.{next_unread, rows_of_sum, cols_of_sum}
use Rattle.snap_export.proofs.several.next_sum.Goals as goal

pub returns-then-not-is_same-clause-err : goal.returns-then-not-is_same-clause-err
returns-then-not-is_same-clause-err g c = λ earlier is. (
  refl,
  (
    c.in_ok-snapshot.snapshot,
    c.in_ok-snapshot.ensures.ok,
    λ both. let t : false ≡ true = c.if-not-is_same.ensures.1 both in absurd (cc),
  ),
)

pub returns-in_err-next-clause-err : goal.returns-in_err-next-clause-err
returns-in_err-next-clause-err g c =
    passed_on c.from_residual-in_err-next.result _ Memory c.from_residual-in_err-next.ensures.1 (λ earlier is.
    inr (record {
      x = c.in_ok-snapshot.snapshot;
      loaded = c.in_ok-snapshot.ensures.ok;
      rows_are = (c.if-not-is_same.ensures.0 refl).0;
      cols_are = (c.if-not-is_same.ensures.0 refl).1;
      fits = c.in_err-next.ensures.memory c.args.rows c.args.cols earlier is;
    }))

pub returns-clause-ok : goal.returns-clause-ok
returns-clause-ok g c = λ earlier is. record {
  x = c.in_ok-snapshot.snapshot;
  loaded = c.in_ok-snapshot.ensures.ok;
  rows_are = (c.if-not-is_same.ensures.0 refl).0;
  cols_are = (c.if-not-is_same.ensures.0 refl).1;
  sum_is = c.in_ok-next.ensures.sum c.args.rows c.args.cols earlier is;
}

pub returns-in_err-snapshot-clause-err : goal.returns-in_err-snapshot-clause-err
returns-in_err-snapshot-clause-err g c =
    passed_on c.from_residual.result _ c.in_err-snapshot.field-0.0 c.from_residual.ensures.1 (λ earlier is.
    next_unread g.F.SnapshotFiles.load_gives c.args.files.now c.load_next.new.files c.args.number c.args.rows
    c.args.cols earlier c.in_err-snapshot.field-0.0 c.in_err-snapshot.ensures.err)

pub added-requires-clause-rows : goal.added-requires-clause-rows
added-requires-clause-rows g c =
    rows_of_sum c.args.rows c.args.cols _ c.requires.summed.0 c.args.sum c.requires.summed.1
    (c.if-not-is_same.ensures.0 refl).0

pub added-requires-clause-cols : goal.added-requires-clause-cols
added-requires-clause-cols g c =
    cols_of_sum c.args.rows c.args.cols _ c.requires.summed.0 c.args.sum c.requires.summed.1
    (c.if-not-is_same.ensures.0 refl).1
