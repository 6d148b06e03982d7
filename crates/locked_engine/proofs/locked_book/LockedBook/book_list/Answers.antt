use Rattle.std.proofs.Common.{◌∙◌, sym, ap}
use Rattle.batch_store.specs.Accepted.{entries_in}
use Rattle.batch_store.specs.Books.{Register}
use Rattle.locked_engine.proofs.FoldedLaws.{past_of}
use Rattle.locked_engine.proofs.ListedLaws.{all_accepted, all_sized, all_past, all_listed}
use Rattle.locked_engine.proofs.locked_book.LockedBook.book_list.Goals as goal

pub returns-clause-list : goal.returns-clause-list
returns-clause-list g c =
    all_accepted c.self.inside.book g.N.Named.setup c.self.invariant.0 c.book_list.result c.book_list.ensures.list
    c.book_list.ensures.kept

pub returns-clause-dims : goal.returns-clause-dims
returns-clause-dims g c =
    all_sized c.self.inside.book g.N.Named.setup c.self.invariant.0 c.book_list.result c.book_list.ensures.list

pub returns-clause-shown : goal.returns-clause-shown
returns-clause-shown g c =
    all_listed c.self.inside.book g.N.Named.setup c.self.invariant.0 c.show.new.seen c.book_list.result
    c.book_list.ensures.list
    (c.if-not-show.ensures.shown ∙ sym (ap (λ (w : Register). entries_in w.state) c.self.view_is))

pub returns-clause-past : goal.returns-clause-past
returns-clause-past g c =
    all_past c.self.inside.book g.N.Named.setup c.self.invariant.0 g.N.Named.opened c.book_list.result
    c.book_list.ensures.list
    (past_of g.N.Named.opened c.self.inside.history.batches c.self.inside.book.state c.self.invariant.1)
