use Rattle.std.proofs.Common.{◌≡◌, ℕ, sym, ◌∙◌, ap}
use Rattle.std.proofs.lemmas.Result.{IfOk-at_ok}
use Rattle.std.specs.Arc.{arc_value}
use Rattle.hyper_matrix.specs.Counts.{Counts, part}
use Rattle.hyper_matrix.specs.Matrix.{Matrix}
use Rattle.batch_store.proofs.SumLaws.{part-part}
use Rattle.store_tests.proofs.store.folds.shard_of.Goals as goal

pub with_base-requires-clause-own : goal.with_base-requires-clause-own
with_base-requires-clause-own g c =
    let m = c.expect-m.result.counts in
    let k = c.args.setup.now.shards in
    let is : (arc_value c.expect-base.result).counts ≡ part m 0 k =
    ap (λ (x : Matrix). x.counts) (IfOk-at_ok _ c.expect-base.ensures c.new.ensures.ok
    ∙ IfOk-at_ok _ c.expect-part.ensures c.part.ensures)
    ∙ ap (λ (n : ℕ). part m 0 n) c.shards.ensures.value in
    ap (λ (x : Counts). part x 0 k) is ∙ part-part m 0 k ∙ sym is
