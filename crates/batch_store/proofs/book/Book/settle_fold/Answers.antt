use Rattle.std.proofs.Common.{◌∙◌, ap, length}
use Rattle.batch_store.specs.BookFolds.{due_list}
use Rattle.batch_store.proofs.BookFoldLaws.{front_kept, front_folded, none_due}
use Rattle.batch_store.proofs.book.Book.settle_fold.Goals as goal

pub invariant_of-self : goal.invariant_of-self
invariant_of-self c =
    let s = c.self.inside in
    let rest = c.take_sealed-batches.new.self in
    let told = c.in_ok-base.ensures.told in (
      front_kept s.setup s.total s.gone _ s.past c.set_base-base.new.self s.lines.entries s.rest rest _ _
          c.self.invariant.0 c.self.view_is c.set_base-base.ensures.base c.set_base-base.ensures.entries
          c.take_sealed-batches.ensures.due c.self.invariant.1 told.0 told.1 told.2 c.take_sealed-batches.ensures.behind _
          (c.sealed_len.ensures ∙ ap (λ o. length (due_list o)) c.take_sealed-batches.ensures.taken),
      none_due _ rest c.take_sealed-batches.ensures.due,
    )

pub returns-clause-folded : goal.returns-clause-folded
returns-clause-folded c =
    let s = c.self.inside in
    let rest = c.take_sealed-batches.new.self in
    let told = c.in_ok-base.ensures.told in
    front_folded s.setup s.total s.gone _ s.past c.set_base-base.new.self s.lines.entries s.rest rest _ _
    c.self.invariant.0 c.self.view_is c.set_base-base.ensures.base c.set_base-base.ensures.entries
    c.take_sealed-batches.ensures.due c.self.invariant.1 told.0 told.1 told.2 c.take_sealed-batches.ensures.behind _
    (c.sealed_len.ensures ∙ ap (λ o. length (due_list o)) c.take_sealed-batches.ensures.taken)
