use Rattle.std.proofs.Common.{ap, subst, List, ◌∙◌}
use mathlib.Core.List.{IsPrefix}
use Rattle.batch_store.specs.Batches.{Submission}
use Rattle.locked_engine.specs.Views.{Course}
use Rattle.locked_engine.proofs.FoldedLaws.{past_of, all_distinct, known_behind}
use Rattle.locked_engine.proofs.locked_book.LockedBook.end.Goals as goal

pub returns-clause-past : goal.returns-clause-past
returns-clause-past g c =
    past_of g.N.Named.opened c.self.inside.history.batches c.self.inside.book.state c.self.invariant.1

-- what is known begins the history
pub returns-clause-given : goal.returns-clause-given
returns-clause-given g c =
    let history = c.self.inside.history in (
      history.batches,
      c.self.invariant.1,
      subst (λ (l : List Submission). IsPrefix c.args.known.now l)
          (ap (λ (s : Course). s.batches) (c.contains.ensures.same ∙ c.covers.ensures.same)) c.contains.ensures.begins,
    )

-- and the book's batches come after those of it that are folded
pub returns-clause-known : goal.returns-clause-known
returns-clause-known g c =
    let o = g.N.Named.opened in
    let history = c.self.inside.history in
    let a = c.self.inside.book.state in
    let distinct = all_distinct o history.batches a history.entries c.self.invariant.1 c.self.invariant.4
    c.status-status.ensures.legal.distinct in
    known_behind o c.args.known.now history.batches a c.self.invariant.1 distinct
    (subst (λ (l : List Submission). IsPrefix c.args.known.now l)
    (ap (λ (s : Course). s.batches) (c.contains.ensures.same ∙ c.covers.ensures.same)) c.contains.ensures.begins)
