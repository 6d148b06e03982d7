use Rattle.locked_engine.specs.Histories.{given_in}
use Rattle.locked_engine.proofs.PrefixLaws.{prefix_behind}
use Rattle.locked_engine.proofs.HistoryLaws.{given_prefix}
use Rattle.locked_engine.proofs.known.Known.learn.Goals as goal

-- both began one history
pub returns-clause-later : goal.returns-clause-later
returns-clause-later g c =
    let mine = c.self.inside.seen.log in
    let both = c.learn.new.self.log in
    rw (← c.self.view_is) (prefix_behind g.N.Named.opened.list (given_in mine) (given_in both)
    (given_prefix mine both c.learn.ensures.2))

pub returns-clause-no_less : goal.returns-clause-no_less
returns-clause-no_less g c =
    let theirs = c.other.inside.seen.log in
    let both = c.learn.new.self.log in
    rw (← c.other.view_is) (prefix_behind g.N.Named.opened.list (given_in theirs) (given_in both)
    (given_prefix theirs both c.learn.ensures.3))
