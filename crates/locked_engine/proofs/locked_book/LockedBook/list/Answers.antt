use Rattle.std.proofs.Common.{◌∙◌, sym, ap}
use Rattle.batch_store.specs.Accepted.{entries_in}
use Rattle.batch_store.specs.Batches.{values}
use Rattle.batch_store.specs.Books.{Register}
use Rattle.locked_engine.proofs.FoldedLaws.{past_of}
use Rattle.locked_engine.proofs.ListedLaws.{rest_listed, behind_listed}
use Rattle.locked_engine.proofs.locked_book.LockedBook.list.Goals as goal

-- the batches that aren't folded
pub returns-clause-list : goal.returns-clause-list
returns-clause-list g c =
    let told = c.list.ensures in
    rest_listed (λ list. values list.items) c.self.inside.book g.N.Named.setup c.list.result told.list
    c.self.invariant.0
    told.kept

pub returns-clause-shown : goal.returns-clause-shown
returns-clause-shown g c =
    behind_listed (λ list. values list.items) c.self.inside.book g.N.Named.opened c.show.new.seen c.list.result
    c.list.ensures.list
    (past_of g.N.Named.opened c.self.inside.history.batches c.self.inside.book.state c.self.invariant.1)
    (c.if-not-show.ensures.shown ∙ sym (ap (λ (w : Register). entries_in w.state) c.self.view_is))
