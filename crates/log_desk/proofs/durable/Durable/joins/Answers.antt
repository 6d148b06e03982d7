use Rattle.std.proofs.Common.{List, subst}
use mathlib.Core.List.{IsPrefix}
use Rattle.batch_store.specs.declared.verdict.Entry.{Entry}
use Rattle.log_desk.proofs.TakeLaws.{front_of_all}
use Rattle.log_desk.proofs.durable.Durable.joins.Goals as goal

-- both versions begin what they are together
pub returns : goal.returns
returns g c =
    let mine = c.self.inside in
    let both = c.learn.new.self in
    let this : IsPrefix mine.version both = subst (λ (l : List Entry). IsPrefix l both) c.again-both.ensures
    c.learn.ensures.later in
    let front : IsPrefix c.args.self.now both = subst (λ (l : List Entry). IsPrefix l both) c.self.view_is
    (front_of_all mine.status.batches mine.version both this) in
    (both, c.status-status.ensures.legal, front, c.learn.ensures.no_less)
