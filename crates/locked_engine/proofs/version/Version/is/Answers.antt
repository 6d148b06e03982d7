use Rattle.std.proofs.Common.{◌≡◌, ap, subst, arith, length, length-append, List}
use mathlib.Core.List.{IsPrefix}
use Rattle.batch_store.specs.declared.verdict.Entry.{Entry}
use Rattle.locked_engine.proofs.PrefixLaws.{prefix_whole}
use Rattle.batch_store.specs.Accepted.{entries_in}
use Rattle.locked_engine.specs.Histories.{added_in}
use Rattle.locked_engine.proofs.version.Version.is.Goals as goal

-- two beginnings of one list that are as long as each other
pub returns : goal.returns
returns g c =
    let opened = entries_in g.N.Named.opened in
    let mine = c.args.self.now in
    let other = c.args.other.now in
    let same : length mine ≡ length other = omega (
      arith,
      ap length c.self.view_is,
      ap length c.other.view_is,
      length-append opened (added_in c.self.inside.seen.log),
      length-append opened (added_in c.other.inside.seen.log),
      c.self.invariant.1,
      c.other.invariant.1,
      c.if-self-other.false,
    ) in
    let begins : IsPrefix mine c.learn.new.self = subst (λ (l : List Entry). IsPrefix l c.learn.new.self)
    c.again-longer.ensures c.learn.ensures.later in
    let taken : c.learn.new.self ≡ other = c.learn.ensures.taken
    (omega (arith, same, ap length c.again-longer.ensures)) in
    prefix_whole mine other (subst (IsPrefix mine) taken begins) (omega (arith, same))
