use Rattle.std.proofs.Common.{List, subst, sym}
use mathlib.Core.List.{IsPrefix}
use Rattle.batch_store.specs.declared.verdict.Entry.{Entry}
use Rattle.log_desk.proofs.TakeLaws.{front_of_other}
use Rattle.log_desk.proofs.durable.Durable.begins.Goals as goal

-- both versions begin one list
pub returns : goal.returns
returns g c less =
    let mine = c.self.inside in
    let both = c.learn.new.self in
    let this : IsPrefix mine.version both = subst (λ (l : List Entry). IsPrefix l both) c.again-both.ensures
    c.learn.ensures.later in
    front_of_other mine.status.batches c.args.self.now mine.version c.args.version.now both (sym c.self.view_is)
    c.self.invariant.0 this c.learn.ensures.no_less less
