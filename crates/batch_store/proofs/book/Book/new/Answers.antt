use Rattle.std.proofs.Common.{sym, ap, subst, ◌∙◌, []}
use Rattle.hyper_matrix.specs.Counts.{Counts}
use Rattle.hyper_matrix.specs.Matrix.{Matrix}
use Rattle.batch_store.specs.Accepted.{accepted}
use Rattle.batch_store.specs.Books.{AreAccepted}
use Rattle.batch_store.specs.Pieces.{Cut}
use Rattle.batch_store.proofs.BookLaws.{accepted_none}
use Rattle.batch_store.proofs.book.Book.new.Goals as goal

pub with_folded-requires-clause-accepted : goal.with_folded-requires-clause-accepted
with_folded-requires-clause-accepted g c =
    subst (λ (m : Counts). AreAccepted c.args.setup.now (accepted m [] []))
    (sym (ap (λ (x : Cut). x.whole.counts) (c.in_ok-base.ensures.ok ∙ c.in_ok-cut.ensures)
    ∙ ap (λ (m : Matrix). m.counts) c.new-empty.ensures))
    (accepted_none c.args.setup.now c.rows.ensures.kept)
