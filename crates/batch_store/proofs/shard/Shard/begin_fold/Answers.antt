use Rattle.std.proofs.Common.{◌≡◌, ◌++◌, ap, sym, subst, refl}
use Rattle.std.specs.Arc.{arc_value}
use Rattle.batch_store.specs.Shards.{KeepsShard}
use Rattle.batch_store.proofs.ShardLaws.{Held, shard_handed}
use Rattle.batch_store.proofs.ShardFoldLaws.{none_there, swapped, sealed_now, seals_handed, hands_down}
use Rattle.batch_store.proofs.shard.Shard.begin_fold.Goals as goal

pub invariant_of-self : goal.invariant_of-self
invariant_of-self c =
    let s = c.self.inside in (
      subst (λ l. KeepsShard s.setup s.number l (arc_value s.base) (s.sealed.entries ++ s.held.entries))
          (sym c.in_err-below.ensures.err) c.self.invariant.0,
      tt,
    )

pub invariant_of-self-in_err-place : goal.invariant_of-self-in_err-place
invariant_of-self-in_err-place c =
    let s = c.self.inside in (
      shard_handed s.setup s.number s.layers _ (arc_value s.base) (s.sealed.entries ++ s.held.entries) c.self.invariant.0
          c.in_ok-below.ensures.handed,
      tt,
    )

pub returns-in_err-place-clause-stays : goal.returns-in_err-place-clause-stays
returns-in_err-place-clause-stays c =
    let s = c.self.inside in
    seals_handed s.setup s.number _ _ s.layers _ (arc_value s.base) (s.sealed.entries ++ s.held.entries) _ _
    c.self.invariant.0 c.in_ok-below.ensures.handed refl c.self.view_is

both : (c : goal.Joined-self-2) → c.swap.new.x.entries ++ c.swap.new.y.entries ≡ c.self.inside.sealed.entries
    ++ c.self.inside.held.entries
both c =
    let s = c.self.inside in
    swapped s.sealed.entries s.held.entries _ _ (none_there s.sealed.entries _ c.len.ensures.value c.if-len-gt0.false)
    (ap (λ m. m.entries) c.swap.ensures.x_after) (ap (λ m. m.entries) c.swap.ensures.y_after)

pub invariant_of-self-2 : goal.invariant_of-self-2
invariant_of-self-2 c =
    let s = c.self.inside in (
      subst (λ (l : Held). KeepsShard s.setup s.number c.hand_down.new.self (arc_value s.base) l) (sym (both c))
          (shard_handed s.setup s.number s.layers c.hand_down.new.self (arc_value s.base)
          (s.sealed.entries ++ s.held.entries) c.self.invariant.0 c.in_ok-below.ensures.handed),
      sealed_now s.setup s.number s.layers c.hand_down.new.self (arc_value s.base) (arc_value c.in_ok-below.below)
          s.sealed.entries s.held.entries c.swap.new.x.entries _ c.self.invariant.0 c.in_ok-below.ensures.handed
          c.in_ok-below.ensures.below c.in_ok-place.ensures
          (none_there s.sealed.entries _ c.len.ensures.value c.if-len-gt0.false)
          (ap (λ m. m.entries) c.swap.ensures.x_after),
    )

pub returns-clause-stays : goal.returns-clause-stays
returns-clause-stays c =
    let s = c.self.inside in
    seals_handed s.setup s.number _ _ s.layers _ (arc_value s.base) (s.sealed.entries ++ s.held.entries) _ _
    c.self.invariant.0 c.in_ok-below.ensures.handed (both c) c.self.view_is

pub returns-clause-handed : goal.returns-clause-handed
returns-clause-handed c =
    let s = c.self.inside in
    hands_down s.setup s.number _ _ s.layers _ (arc_value s.base) (s.sealed.entries ++ s.held.entries) _ _
    c.self.invariant.0 c.in_ok-below.ensures.handed (both c) c.self.view_is
