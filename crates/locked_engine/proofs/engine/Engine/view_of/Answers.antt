use Rattle.std.proofs.Common.{◌≡◌, ap, subst, ◌∙◌}
use Rattle.std.specs.Prelude.{IfOk}
use Rattle.batch_store.specs.Shards.{Holding, layering_of}
use Rattle.locked_engine.specs.Shown.{Shown}
use Rattle.locked_engine.proofs.ShownLaws.{viewed_shown, viewed_looked}
use Rattle.locked_engine.proofs.engine.Engine.view_of.Goals as goal

pub returns-in-Some : goal.returns-in-Some
returns-in-Some g c =
    viewed_shown g.N.Named.setup g.N.Named.opened c.args.s c.deref.result.now.number c.sight.result.now c.again.result
    (ap (λ (w : Shown). w.number) c.deref.ensures ∙ c.in-Some.ensures) c.sight.ensures.kept c.again.ensures

pub returns-in-None : goal.returns-in-None
returns-in-None g c =
    viewed_looked g.N.Named.setup g.N.Named.opened c.args.s c.look.result _ c.unwrap_or.result _
    (λ x t q. subst (λ (y : Holding). IfOk t (λ w. w.layers ≡ layering_of y)) q.2 q.1) c.look.ensures
    c.unwrap_or.ensures
