use Rattle.std.proofs.Common.{◌≡◌, ℕ, ◌∙◌, sym, ap, arith}
use Rattle.hyper_matrix.specs.Counts.{Counts, part, total}
use Rattle.hyper_matrix.specs.Matrix.{Matrix}
use Rattle.hyper_matrix.specs.Parts.{shard_part}
use Rattle.std.specs.Arc.{arc_value}
use Rattle.batch_store.proofs.SumLaws.{part-part}
use Rattle.batch_store.proofs.PartLaws.{part_of-le}
use Rattle.plain_engine.proofs.FoldingLaws.{based_next}
use Rattle.plain_engine.proofs.fold.based_shards.Goals as goal

pub with_base-requires-clause-own : goal.with_base-requires-clause-own
with_base-requires-clause-own g c =
    let s = c.make.s in
    let k = c.args.setup.now.shards in
    let base = c.args.base.now.whole in
    let own : (arc_value c.in_ok-own.own).counts ≡ part base.counts s k = ap (λ (m : Matrix). m.counts)
    (c.in_ok-own.ensures ∙ c.piece.ensures ∙ ap (λ (n : ℕ). shard_part s n base) c.requires.count) in
    ap (λ (m : Counts). part m s k) own ∙ part-part base.counts s k ∙ sym own

pub with_base-requires-clause-within : goal.with_base-requires-clause-within
with_base-requires-clause-within g c =
    let s = c.make.s in
    let k = c.args.setup.now.shards in
    let base = c.args.base.now.whole in
    let own : (arc_value c.in_ok-own.own).counts ≡ part base.counts s k = ap (λ (m : Matrix). m.counts)
    (c.in_ok-own.ensures ∙ c.piece.ensures ∙ ap (λ (n : ℕ). shard_part s n base) c.requires.count) in
    omega (arith, ap total own, part_of-le s k base.counts, c.requires.within)

pub make-preserved : goal.make-preserved
make-preserved g c =
    let s = c.make.s in
    let v = c.args.setup.now in
    let base = c.args.base.now.whole in
    let own : (arc_value c.in_ok-own.own).counts ≡ part base.counts s v.shards = ap (λ (m : Matrix). m.counts)
    (c.in_ok-own.ensures ∙ c.piece.ensures ∙ ap (λ (n : ℕ). shard_part s n base) c.requires.count) in
    let e = c.in_ok-shard.ensures in
    based_next v base.counts s c.make.shards.items c.push.new.self.items c.in_ok-shard.shard c.make.invariant
    c.in_ok-push.ensures.items e.setup e.number e.record (e.base ∙ own) c.number-held.ensures.kept
