use Rattle.std.proofs.Common.{◌≡◌, ◌+◌, ◌<◌, ◌%◌, length, ap, subst, arith, ℕ}
use Rattle.plain_engine.specs.Standing.{Standing, StandsAt}
use Rattle.plain_engine.proofs.LookLaws.{stands_here}
use Rattle.plain_engine.proofs.engine.PlainEngine.shard_of.Goals as goal

pub returns : goal.returns
returns c =
    let v = c.self.inside.setup in
    let a = c.self.inside.book.state in
    let xs = c.self.inside.shards.items in
    let x = c.index.result.now in
    let j = c.args.row % c.shards-k.result in
    let same : j ≡ c.args.row % v.shards = ap (λ (k : ℕ). c.args.row % k) c.shards-k.ensures.value in
    let below : j < length xs = omega (
      arith,
      c.self.invariant.count,
      c.shards-k.ensures.value,
      c.shards-k.ensures.kept.shards.0,
    ) in
    let here : StandsAt v a (0 + j) x = stands_here v a 0 j xs x c.self.invariant.stand below c.index.ensures in
    let at : StandsAt v a (c.args.row % v.shards) x =
    subst (λ (n : ℕ). StandsAt v a n x) {x = 0 + j} {y = c.args.row % v.shards} (omega (arith, same)) here in
    subst (λ (e : Standing). StandsAt e.setup e.book.state (c.args.row % e.setup.shards) x) c.self.view_is at
