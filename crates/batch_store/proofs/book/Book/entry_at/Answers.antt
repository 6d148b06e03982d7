use Rattle.std.proofs.Common.{ap, sym, ◌∙◌, Some, slice_get}
use Rattle.batch_store.specs.Accepted.{entries_in}
use Rattle.batch_store.specs.Books.{Register}
use Rattle.batch_store.proofs.BookLaws.{entries_same, entry_behind, entry_none}
use Rattle.batch_store.proofs.book.Book.entry_at.Goals as goal

pub returns-in-Some : goal.returns-in-Some
returns-in-Some c =
    ap Some c.entry_under.ensures
    ∙ entry_behind c.self.inside.past.entries c.self.inside.lines.entries _ _ _ c.in-Some.line.now
    c.len-folded.ensures c.if-i-folded.false c.in-Some.ensures.entry
    ∙ ap (λ es. slice_get es c.args.i) (sym (entries_same c.self.inside.past c.self.inside.gone c.self.inside.lines.entries _ c.self.invariant.0.same))
    ∙ ap (λ (w : Register). slice_get (entries_in w.state) c.args.i) c.self.view_is

pub returns-in-None : goal.returns-in-None
returns-in-None c =
    entry_none c.self.inside.past.entries c.self.inside.lines.entries _ _ c.len-folded.ensures c.if-i-folded.false
    c.in-None.ensures.entry
    ∙ ap (λ es. slice_get es c.args.i) (sym (entries_same c.self.inside.past c.self.inside.gone c.self.inside.lines.entries _ c.self.invariant.0.same))
    ∙ ap (λ (w : Register). slice_get (entries_in w.state) c.args.i) c.self.view_is
