use Rattle.std.proofs.Common.{◌≡◌, ◌∙◌, ap, arith}
use Rattle.hyper_matrix.specs.Counts.{total}
use Rattle.hyper_matrix.specs.Matrix.{Matrix, matrix}
use Rattle.hyper_matrix.proofs.CountLaws.{total-empty}
use Rattle.batch_store.specs.Accepted.{summed, total_in}
use Rattle.batch_store.specs.Books.{accepted_in}
use Rattle.batch_store.proofs.SumLaws.{total-summed}
use Rattle.snap_file.specs.Snapshots.{Saved}
use Rattle.snap_export.specs.Minus.{sum_in}
use Rattle.snap_export.proofs.MinusLemmas.{added_to_none}
use Rattle.snap_export.proofs.minus.sum_of.Goals as goal

pub with_list-requires-clause-fits : goal.with_list-requires-clause-fits
with_list-requires-clause-fits c =
    let told = accepted_in c.args.snapshot.list in
    let none : total c.new-none.result.counts ≡ 0 = ap (λ (m : Matrix). total m.counts) c.new-none.ensures
    ∙ total-empty in
    let whole : total (summed (accepted_in c.snapshot.inside.list)) ≡ total_in told =
    ap (λ (x : Saved). total (sum_in x)) c.snapshot.view_is ∙ total-summed told c.requires.based in
    omega (arith, none, whole, c.requires.within, c.requires.sound.fits)

pub returns : goal.returns
returns c =
    let counts = summed (accepted_in c.snapshot.inside.list) in
    added_to_none c.rows.result c.cols.result c.new-none.result c.in_ok-sum.sum counts c.new-none.ensures
    c.in_ok-sum.ensures
    ∙ (λ i. matrix (c.rows.ensures.value i) (c.cols.ensures.value i) counts)
    ∙ ap (λ (x : Saved). matrix x.setup.rows x.setup.cols (sum_in x)) c.snapshot.view_is
