use Rattle.std.proofs.Common.{◌≡◌, ◌%◌, ap, subst, ◌∙◌, ℕ, Some}
use Rattle.std.specs.Prelude.{IfSome}
use Rattle.std.specs.FinMap.{get}
use Rattle.layer_compaction.specs.Shared.{content}
use Rattle.batch_store.specs.Setups.{Setting}
use Rattle.batch_store.specs.Shards.{Holding}
use Rattle.locked_engine.specs.Moments.{IsShardOf}
use Rattle.locked_engine.specs.Shown.{Shown}
use Rattle.locked_engine.proofs.ShownLaws.{looked_cell}
use Rattle.locked_engine.proofs.engine.Engine.cell.Goals as goal

pub returns-in-Some-clause-some : goal.returns-in-Some-clause-some
returns-in-Some-clause-some g c =
    let v = g.N.Named.setup in
    let opened = g.N.Named.opened in
    let place = ap (λ (w : Shown). w.number) c.deref.ensures ∙ c.in-Some.ensures
    ∙ ap (λ (k : ℕ). c.args.row % k) (c.shards.ensures.value ∙ ap (λ (w : Setting). w.shards) c.self.invariant.0) in
    subst (λ (s : ℕ). IfSome c.cell.result (λ n. (x : Holding) × IsShardOf v opened s x
    × (get (content x.layers) (c.args.row, c.args.col) ≡ Some n))) place c.cell.ensures

pub returns-in-None-clause-some : goal.returns-in-None-clause-some
returns-in-None-clause-some g c =
    let v = g.N.Named.setup in
    let opened = g.N.Named.opened in
    let place = ap (λ (k : ℕ). c.args.row % k)
    (c.shards.ensures.value ∙ ap (λ (w : Setting). w.shards) c.self.invariant.0) in
    subst (λ (s : ℕ). IfSome c.flatten.result (λ n. (x : Holding) × IsShardOf v opened s x
    × (get (content x.layers) (c.args.row, c.args.col) ≡ Some n))) place
    (looked_cell v opened (c.args.row % c.shards.result) c.args.row c.args.col c.look.result c.flatten.result _
    (λ x t q. q.1 ∙ ap (λ (y : Holding). get (content y.layers) (c.args.row, c.args.col)) q.2) c.look.ensures
    c.flatten.ensures)
