use Rattle.std.specs.Prelude.{◌⊎◌}
use Rattle.std.proofs.Common.{◌≡◌, ◌%◌, ap, subst, ◌∙◌, ℕ, inr}
use Rattle.batch_store.specs.Setups.{Setting}
use Rattle.batch_store.specs.Shards.{Holding}
use Rattle.locked_engine.specs.Moments.{IsShardOf, row_sum_in, no_sum}
use Rattle.locked_engine.specs.Shown.{Shown}
use Rattle.locked_engine.proofs.ShownLaws.{looked_row}
use Rattle.locked_engine.proofs.engine.Engine.row.Goals as goal

pub returns-in-Some-clause-sum : goal.returns-in-Some-clause-sum
returns-in-Some-clause-sum g c =
    let v = g.N.Named.setup in
    let opened = g.N.Named.opened in
    let place = ap (λ (w : Shown). w.number) c.deref.ensures ∙ c.in-Some.ensures
    ∙ ap (λ (k : ℕ). c.args.row % k) (c.shards.ensures.value ∙ ap (λ (w : Setting). w.shards) c.self.invariant.0) in
    inr (subst (λ (s : ℕ). (x : Holding) × IsShardOf v opened s x × (c.row.result ≡ row_sum_in x c.args.row)) place
    c.row.ensures)

pub returns-in-None-clause-sum : goal.returns-in-None-clause-sum
returns-in-None-clause-sum g c =
    let v = g.N.Named.setup in
    let opened = g.N.Named.opened in
    let place = ap (λ (k : ℕ). c.args.row % k)
    (c.shards.ensures.value ∙ ap (λ (w : Setting). w.shards) c.self.invariant.0) in
    subst (λ (s : ℕ). (c.unwrap_or.result ≡ no_sum) ⊎ ((x : Holding) × IsShardOf v opened s x
    × (c.unwrap_or.result ≡ row_sum_in x c.args.row))) place
    (looked_row v opened (c.args.row % c.shards.result) c.args.row c.look.result c.unwrap_or.result _
    (λ x t q. q.1 ∙ ap (λ (y : Holding). row_sum_in y c.args.row) q.2) c.look.ensures c.unwrap_or.ensures)
