use Rattle.std.proofs.Common.{◌∙◌, ap}
use Rattle.batch_store.specs.Accepted.{entries_in}
use Rattle.batch_store.specs.Books.{Listing, accepted_in}
use Rattle.batch_store.proofs.GrowthLaws.{entries-grown}
use Rattle.snap_report.specs.Kept.{folded_in}
use Rattle.snap_report.proofs.FoldLemmas.{folded-grown, if_ok_weaker}
use Rattle.snap_report.proofs.refit.refit.Goals as goal

pub returns-clause-folded : goal.returns-clause-folded
returns-clause-folded c =
    if_ok_weaker c.grown.result (λ l is. ap folded_in is ∙ folded-grown c.args.to.now c.args.list) c.grown.ensures.list

pub returns-clause-entries : goal.returns-clause-entries
returns-clause-entries c =
    if_ok_weaker c.grown.result (λ l is. ap (λ (v : Listing). entries_in (accepted_in v)) is
    ∙ entries-grown c.args.to.now c.args.list) c.grown.ensures.list
