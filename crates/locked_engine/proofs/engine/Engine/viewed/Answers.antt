use Rattle.std.proofs.Common.{refl, sym, subst}
use Rattle.batch_store.specs.Setups.{Setting}
use Rattle.plain_engine.specs.Views.{HaveSize}
use Rattle.plain_engine.proofs.ViewLaws.{show_size, sum_shown}
use Rattle.locked_engine.proofs.MomentLaws.{made_with}
use Rattle.locked_engine.proofs.engine.Engine.viewed.Goals as goal

pub new-requires : goal.new-requires
new-requires g c =
    let v = g.N.Named.setup in
    let seen = c.in_ok-views.ensures in
    let vs = c.in_ok-views.views.items in
    subst (λ (w : Setting). HaveSize w.rows w.cols vs) (sym c.self.invariant.0)
    (show_size v vs seen.0 (made_with v g.N.Named.opened 0 seen.0 seen.1) seen.3)

pub returns : goal.returns
returns g c =
    let seen = c.in_ok-views.ensures in
    let vs = c.in_ok-views.views.items in (
      seen.0,
      seen.1,
      seen.2,
      sum_shown g.N.Named.setup c.self.inside.setup vs vs seen.0 c.new.result c.new.ensures c.self.invariant.0 refl
          seen.3,
    )
