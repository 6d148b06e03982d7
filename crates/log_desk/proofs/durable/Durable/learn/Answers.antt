use Rattle.std.proofs.Common.{◌≤◌, subst, arith, List}
use mathlib.Core.List.{IsPrefix}
use Rattle.batch_store.specs.declared.verdict.Entry.{Entry}
use Rattle.log_desk.proofs.TakeLaws.{front_begins}
use Rattle.log_desk.proofs.durable.Durable.learn.Goals as goal

-- both are fronts of beginnings of one history, so the shorter begins the longer
pub returns-then-self-other-clause-later : goal.returns-then-self-other-clause-later
returns-then-self-other-clause-later g c =
    let mine = c.self.inside in
    let theirs = c.other.inside in
    let both = c.learn.new.self in
    let this : IsPrefix mine.version both = subst (λ (l : List Entry). IsPrefix l both) c.again-both.ensures
    c.learn.ensures.later in
    let less : mine.status.batches ≤ theirs.status.batches = omega arith in
    rw (c.drop.view_is, c.again.ensures, ← c.self.view_is, ← c.other.view_is)
    (front_begins mine.status.batches theirs.status.batches mine.version theirs.version both this
    c.learn.ensures.no_less less c.self.invariant.0 c.other.invariant.0)

pub returns-clause-no_less : goal.returns-clause-no_less
returns-clause-no_less g c =
    let mine = c.self.inside in
    let theirs = c.other.inside in
    let both = c.learn.new.self in
    let this : IsPrefix mine.version both = subst (λ (l : List Entry). IsPrefix l both) c.again-both.ensures
    c.learn.ensures.later in
    let less : theirs.status.batches ≤ mine.status.batches = omega arith in
    rw (← c.self.view_is, ← c.other.view_is)
    (front_begins theirs.status.batches mine.status.batches theirs.version mine.version both c.learn.ensures.no_less
    this less c.other.invariant.0 c.self.invariant.0)
