use Rattle.std.proofs.Common.{List, ap, subst, sym, ◌∙◌}
use Rattle.batch_store.specs.Batches.{Submission, values}
use Rattle.batch_store.specs.Books.{Listing}
use Rattle.batch_store.specs.Growth.{AllLieIn}
use Rattle.batch_store.proofs.growth.widen_list.Goals as goal

pub widen_all-requires : goal.widen_all-requires
widen_all-requires c =
    subst (λ (l : List Submission). AllLieIn c.args.setup.now l)
    (sym (ap values c.deref-2.ensures.value ∙ ap (λ (v : Listing). v.list) c.list.view_is)) c.requires.fit
