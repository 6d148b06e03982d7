use Rattle.std.proofs.Common.{◌≡◌, sym, ◌∙◌, ap, subst, arith, ℕ}
use Rattle.hyper_matrix.specs.Counts.{part}
use Rattle.hyper_matrix.specs.Matrix.{Matrix}
use Rattle.batch_store.specs.Pieces.{Cut}
use Rattle.plain_engine.specs.Records.{Follows}
use Rattle.plain_engine.specs.Standing.{AreTogether}
use Rattle.plain_engine.proofs.StandLaws.{stand_next, together_next}
use Rattle.plain_engine.proofs.parts.are_together.Goals as goal

pub shards-preserved : goal.shards-preserved
shards-preserved c =
    let v = c.args.setup.now in
    let a = c.args.book.now.state in
    let xs = c.args.shards.now in
    let x = c.shard-item.result in
    let i = c.shards.shard-index in
    let inv = c.shards.invariant in
    let number : x.number ≡ i = omega (arith, c.number.ensures.value, c.if-number-place.false, inv.at) in
    let told : Follows c.shards.place c.shards-k.result x.record_list a.list =
    c.record_follows.ensures.0 c.if-not-record_follows.false in
    let follows : Follows i v.shards x.record_list a.list =
    subst (λ (n : ℕ). Follows n v.shards x.record_list a.list) inv.at
    (subst (λ (k : ℕ). Follows c.shards.place k x.record_list a.list) c.shards-k.ensures.value told) in
    let own : c.deref.result.now.counts ≡ x.base = ap (λ (m : Matrix). m.counts) (c.deref.ensures ∙ c.base.ensures) in
    let whole : c.deref-in-shards.result.now.whole.counts ≡ a.base =
    ap (λ (x : Cut). x.whole.counts) c.deref-in-shards.ensures
    ∙ ap (λ (m : Matrix). m.counts) c.base-in-shards.ensures in
    let based : x.base ≡ part a.base i v.shards = sym own ∙ c.is_part.ensures.0 c.if-not-is_part.false
    ∙ (λ j. part (whole j) (inv.at j) (c.shards-k.ensures.value j)) in
    record {
      at = omega (arith, inv.at);
      stand = stand_next v a xs i x c.shards-test.true c.shard-item.is number based follows c.requires.made
          c.number.ensures.kept inv.stand;
      rest = together_next v a xs i x c.shards-test.true c.shard-item.is number based follows
          (AreTogether v.shards a 0 xs) inv.rest;
    }
