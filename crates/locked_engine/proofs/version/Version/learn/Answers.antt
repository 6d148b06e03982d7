use Rattle.std.proofs.Common.{◌≤◌, ap, subst, arith, length, List}
use mathlib.Core.List.{IsPrefix}
use Rattle.locked_engine.proofs.PrefixLaws.{prefix_shorter, prefix_behind}
use Rattle.batch_store.specs.Accepted.{entries_in}
use Rattle.locked_engine.specs.declared.history.Line.{Line}
use Rattle.locked_engine.specs.Histories.{added_in}
use Rattle.locked_engine.proofs.HistoryLaws.{added_prefix}
use Rattle.locked_engine.proofs.version.Version.learn.Goals as goal

-- both began one history, so the shorter begins the longer
pub returns-then-self-other-clause-later : goal.returns-then-self-other-clause-later
returns-then-self-other-clause-later g c =
    let mine = added_in c.self.inside.seen.log in
    let theirs = added_in c.other.inside.seen.log in
    let both = added_in c.learn.new.self.log in
    let this : IsPrefix mine both = added_prefix c.self.inside.seen.log c.learn.new.self.log
    (subst (λ (l : List Line). IsPrefix l c.learn.new.self.log) (ap (λ s. s.log) c.again-both.ensures)
    c.learn.ensures.2) in
    let that : IsPrefix theirs both = added_prefix c.other.inside.seen.log c.learn.new.self.log c.learn.ensures.3 in
    let less : length mine ≤ length theirs = omega (arith, c.self.invariant.1, c.other.invariant.1) in
    rw (c.drop.view_is, c.again.ensures, ← c.self.view_is, ← c.other.view_is)
    (prefix_behind (entries_in g.N.Named.opened) mine theirs (prefix_shorter mine theirs both this that less))

pub returns-clause-no_less : goal.returns-clause-no_less
returns-clause-no_less g c =
    let mine = added_in c.self.inside.seen.log in
    let theirs = added_in c.other.inside.seen.log in
    let both = added_in c.learn.new.self.log in
    let this : IsPrefix mine both = added_prefix c.self.inside.seen.log c.learn.new.self.log
    (subst (λ (l : List Line). IsPrefix l c.learn.new.self.log) (ap (λ s. s.log) c.again-both.ensures)
    c.learn.ensures.2) in
    let that : IsPrefix theirs both = added_prefix c.other.inside.seen.log c.learn.new.self.log c.learn.ensures.3 in
    let less : length theirs ≤ length mine = omega (arith, c.self.invariant.1, c.other.invariant.1) in
    rw (← c.self.view_is, ← c.other.view_is)
    (prefix_behind (entries_in g.N.Named.opened) theirs mine (prefix_shorter theirs mine both that this less))
