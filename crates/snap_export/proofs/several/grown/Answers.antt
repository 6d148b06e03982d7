use Rattle.std.proofs.Common.{◌+◌, ◌<◌, ◌^◌, ◌∙◌, ap, arith, rules, Some}
use Rattle.hyper_matrix.specs.Counts.{total}
use Rattle.snap_file.specs.Snapshots.{Saved}
use Rattle.snap_export.specs.Steps.{FitsBehind}
use Rattle.snap_export.proofs.SeveralLemmas.{own, sum_grown, sum_passes, sum_fits, not_below, on_err}
use Rattle.snap_export.proofs.several.grown.Goals as goal

pub returns-then-not-fits_beside-clause-sum : goal.returns-then-not-fits_beside-clause-sum
returns-then-not-fits_beside-clause-sum c = λ rows cols xs is.
    sum_passes rows cols xs c.args.snapshot c.args.sum c.total_of_list-total.result
    (c.total_of_list-total.ensures ∙ ap (λ (x : Saved). total (own x)) c.snapshot.view_is)
    (not_below c.fits_beside.result _ _ c.fits_beside.ensures (search rules)) is

pub returns-in_err-next-clause-memory : goal.returns-in_err-next-clause-memory
returns-in_err-next-clause-memory c =
    let fits : total c.args.sum.counts + c.total_of_list-total.result < 2 ^ 64 = search rules in
    on_err _ (FitsBehind (Some c.args.sum) c.args.snapshot) (λ rows cols xs is.
    sum_fits rows cols xs c.args.snapshot c.args.sum c.total_of_list-total.result
    (c.total_of_list-total.ensures ∙ ap (λ (x : Saved). total (own x)) c.snapshot.view_is) fits is)

pub with_list-requires-clause-fits : goal.with_list-requires-clause-fits
with_list-requires-clause-fits c =
    let fits : total c.args.sum.counts + c.total_of_list-total.result < 2 ^ 64 = search rules in
    omega (arith, fits, c.total_of_list-total.ensures)

pub returns-clause-sum : goal.returns-clause-sum
returns-clause-sum c = λ rows cols xs is.
    sum_grown rows cols xs c.args.snapshot c.args.sum c.in_ok-next.next _
    (ap own c.snapshot.view_is) c.in_ok-next.ensures is
