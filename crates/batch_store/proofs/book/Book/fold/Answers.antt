use Rattle.batch_store.proofs.BookFoldLaws.{all_kept, all_folded, none_due}
use Rattle.batch_store.proofs.book.Book.fold.Goals as goal

pub invariant_of-self : goal.invariant_of-self
invariant_of-self c =
    let s = c.self.inside in (
      all_kept s.setup s.total s.gone _ s.past c.set_base-old.new.self s.lines.entries s.rest c.new.result _ _
          c.self.invariant.0 c.self.view_is c.set_base-old.ensures.base c.set_base-old.ensures.entries c.new.ensures.due
          c.requires c.new.ensures.none _ c.len-self-inside.ensures.value,
      none_due _ c.new.result c.new.ensures.due,
    )

pub returns-clause-ok : goal.returns-clause-ok
returns-clause-ok c =
    let s = c.self.inside in
    all_folded s.setup s.total s.gone _ s.past c.set_base-old.new.self s.lines.entries s.rest c.new.result _ _
    c.self.invariant.0 c.self.view_is c.set_base-old.ensures.base c.set_base-old.ensures.entries c.new.ensures.due
    c.requires c.new.ensures.none _ c.len-self-inside.ensures.value
