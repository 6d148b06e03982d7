use Rattle.std.proofs.Common.{◌∙◌, sym, ap, subst}
use Rattle.batch_store.specs.Setups.{Setting}
use Rattle.batch_store.specs.Accepted.{entries_in}
use Rattle.batch_store.specs.Books.{Register, AreAccepted}
use Rattle.locked_engine.proofs.FoldedLaws.{past_of}
use Rattle.locked_engine.proofs.locked_book.LockedBook.folded.Goals as goal

pub returns-clause-folded : goal.returns-clause-folded
returns-clause-folded g c =
    let state = c.self.inside.book.state in
    let shown = c.if-not-show.ensures.shown ∙ sym (ap (λ (w : Register). entries_in w.state) c.self.view_is) in (
      state,
      subst (λ (v : Setting). AreAccepted v state) c.self.invariant.0 c.len-count.ensures.kept,
      sym shown,
      past_of g.N.Named.opened c.self.inside.history.batches c.self.inside.book.state c.self.invariant.1,
      c.folded.ensures,
    )
