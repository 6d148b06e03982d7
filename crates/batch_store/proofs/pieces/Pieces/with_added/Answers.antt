use Rattle.std.proofs.Common.{◌≡◌, ℕ, ◌<◌, ◌∷◌, [], length, sym, ap, arith, ◌∙◌}
use Rattle.std.proofs.lemmas.List.{length-map, map-append}
use Rattle.std.specs.Arc.{arc_value}
use Rattle.hyper_matrix.specs.Counts.{ewise_add}
use Rattle.hyper_matrix.specs.Matrix.{Matrix}
use Rattle.hyper_matrix.specs.Parts.{parts_below, shard_part}
use Rattle.hyper_matrix.proofs.PartLaws.{length-parts_below, part_read, parts_more}
use Rattle.layer_compaction.specs.Shared.{values}
use Rattle.batch_store.specs.Pieces.{cut_in, whole_of}
use Rattle.batch_store.proofs.PieceLaws.{cut_is, cut_pieces}
use Rattle.batch_store.proofs.PieceSums.{all_made, sum_piece}
use Rattle.batch_store.proofs.pieces.Pieces.with_added.Goals as goal

-- the piece of the old matrix, and that of the other
old_piece : (c : goal.After-index) → c.deref.result.now ≡ shard_part c.pieces.s c.args.self.now.count c.args.self.now.whole
old_piece c = c.deref.ensures ∙ c.piece.ensures

new_piece : (c : goal.After-index) → c.index.result.now ≡ shard_part c.pieces.s c.args.self.now.count c.args.added.now
new_piece c = part_read c.count-k.result c.pieces.s c.args.added.now c.index.result.now c.in_ok-parts.parts.items
    c.in_ok-parts.ensures c.pieces-test.true c.index.ensures
    ∙ ap (λ (n : ℕ). shard_part c.pieces.s n c.args.added.now) c.count-k.ensures.value

pub index-requires : goal.index-requires
index-requires c = omega (
  arith,
  ap length c.in_ok-parts.ensures,
  length-parts_below c.count-k.result c.count-k.result c.args.added.now,
  c.pieces-test.true,
)

pub sum_of-requires-clause-rows : goal.sum_of-requires-clause-rows
sum_of-requires-clause-rows c =
    ap (λ (m : Matrix). m.rows) (old_piece c) ∙ sym c.requires.rows ∙ sym (ap (λ (m : Matrix). m.rows) (new_piece c))

pub sum_of-requires-clause-cols : goal.sum_of-requires-clause-cols
sum_of-requires-clause-cols c =
    ap (λ (m : Matrix). m.cols) (old_piece c) ∙ sym c.requires.cols ∙ sym (ap (λ (m : Matrix). m.cols) (new_piece c))

pub pieces-preserved : goal.pieces-preserved
pieces-preserved c =
    let k = c.args.self.now.count in
    let new : Matrix = record c.args.added.now {
      counts = ewise_add c.args.self.now.whole.counts c.args.added.now.counts;
    } in
    let one = arc_value c.in_ok-shared_as.field-0 in
    parts_more c.pieces.s k new one (values c.pieces.list.items) (values c.push.new.self.items) c.pieces.invariant
    (c.in_ok-shared_as.ensures ∙ sum_piece c.pieces.s k c.args.self.now.whole c.args.added.now c.deref.result.now
    c.index.result.now c.in_ok-sum.sum c.requires.rows c.requires.cols
    (c.deref.ensures ∙ c.piece.ensures)
    (part_read c.count-k.result c.pieces.s c.args.added.now c.index.result.now c.in_ok-parts.parts.items
    c.in_ok-parts.ensures c.pieces-test.true c.index.ensures
    ∙ ap (λ (n : ℕ). shard_part c.pieces.s n c.args.added.now) c.count-k.ensures.value)
    c.in_ok-sum.ensures)
    (ap values c.in_ok-push.ensures.items ∙ map-append arc_value c.pieces.list.items (c.in_ok-shared_as.field-0 ∷ []))

-- all pieces
module _ (c : goal.After-pieces) where
  new : Matrix
  new = record c.args.added.now { counts = ewise_add c.args.self.now.whole.counts c.args.added.now.counts }

  some : 0 < c.args.self.now.count
  some = omega (arith, c.count-k.ensures.value, c.count-k.ensures.some)

  all_are : values c.pieces.list.items ≡ parts_below c.args.self.now.count c.args.self.now.count new
  unfolding new
  all_are = all_made c.args.self.now.count c.count-k.result c.pieces.s new (values c.pieces.list.items)
      c.count-k.ensures.value c.pieces-test.false c.pieces.auto.s-end c.pieces.invariant

  many : length c.pieces.list.items ≡ c.args.self.now.count
  many = sym (length-map c.pieces.list.items arc_value) ∙ ap length all_are
      ∙ length-parts_below c.args.self.now.count c.args.self.now.count new

pub of-requires-clause-some : goal.of-requires-clause-some
of-requires-clause-some c = omega (arith, many c, some c)

pub of-requires-clause-few : goal.of-requires-clause-few
of-requires-clause-few c = omega (arith, many c, c.count-k.ensures.value, c.count-k.ensures.few)

pub of-requires-clause-pieces : goal.of-requires-clause-pieces
unfolding new
of-requires-clause-pieces c = cut_pieces c.dims-rows.result.0 c.dims-rows.result.1 c.args.self.now.count (new c)
    (values c.pieces.list.items) (ap (λ p. p.0) c.dims-rows.ensures.value) (ap (λ p. p.1) c.dims-rows.ensures.value)
    (some c) (all_are c)

pub returns : goal.returns
returns c =
    let k = c.args.self.now.count in
    let m : Matrix = record c.args.added.now {
      counts = ewise_add c.args.self.now.whole.counts c.args.added.now.counts;
    } in
    let list = values c.pieces.list.items in
    c.in_ok-pieces.ensures
    ∙ ap (λ (n : ℕ). cut_in n (whole_of c.dims-rows.result.0 c.dims-rows.result.1 list))
    (sym (length-map c.pieces.list.items arc_value))
    ∙ cut_is c.dims-rows.result.0 c.dims-rows.result.1 k m list
    (ap (λ p. p.0) c.dims-rows.ensures.value) (ap (λ p. p.1) c.dims-rows.ensures.value)
    (omega (arith, c.count-k.ensures.value, c.count-k.ensures.some))
    (all_made k c.count-k.result c.pieces.s m list c.count-k.ensures.value c.pieces-test.false c.pieces.auto.s-end
    c.pieces.invariant)
