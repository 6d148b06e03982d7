use Rattle.std.proofs.Common.{subst, sym, ◌∙◌}
use Rattle.batch_store.specs.Books.{AreAccepted, Listing, accepted_in}
use Rattle.batch_store.proofs.GrowthLaws.{accepted_grown, all_lie_in, grown_own}
use Rattle.batch_store.proofs.book_list.BookList.grown.Goals as goal

pub returns-then-cols-clause-list : goal.returns-then-cols-clause-list
returns-then-cols-clause-list c =
    grown_own c.args.from.now c.args.to.now c.args.self
    (sym c.rows.ensures.value ∙ c.if-rows.true ∙ c.rows-2.ensures.value)
    (sym c.cols.ensures.value ∙ c.if-cols.true ∙ c.cols-then-rows.ensures.value)
    c.requires.rows c.requires.cols c.requires.accepted.dims

pub widen_list-requires-clause-fit : goal.widen_list-requires-clause-fit
widen_list-requires-clause-fit c =
    all_lie_in c.args.from.now c.args.to.now c.args.self.list c.in_ok-judge_growth.ensures.ok.fits
    c.requires.accepted.dims

pub returns-in-Ok-clause-accepted : goal.returns-in-Ok-clause-accepted
returns-in-Ok-clause-accepted c =
    subst (λ (v : Listing). AreAccepted c.args.to.now (accepted_in v)) (sym c.in-Ok.ensures)
    (accepted_grown c.args.from.now c.args.to.now c.args.self c.rows.ensures.kept c.requires.accepted
    c.in_ok-judge_growth.ensures.ok)
