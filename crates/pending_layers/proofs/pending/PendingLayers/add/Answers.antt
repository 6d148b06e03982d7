use Rattle.std.proofs.Common.{ap, sym, subst, ◌∙◌, arith}
use Rattle.cells.specs.Bounds.{AreWithin}
use Rattle.hyper_matrix.specs.Cells.{built_of}
use Rattle.hyper_matrix.specs.Matrix.{Matrix}
use Rattle.layer_compaction.proofs.RunLemmas.{listed_more}
use Rattle.pending_layers.proofs.PendingLemmas.{total_kept, more_matrix, keeps_more}
use Rattle.pending_layers.proofs.pending.PendingLayers.add.Goals as goal

pub overflow_add-result : goal.overflow_add-result
overflow_add-result c = omega (
  arith,
  c.requires.fits,
  c.total.ensures.value,
  total_kept _ _ _ c.args.self c.own.invariant (c.own.view_is ∙ c.in_ok-own.ensures),
)

pub invariant_of-result : goal.invariant_of-result
invariant_of-result c =
    let v = c.own.inside.layers in
    let m = c.args.m.now in
    let room = c.reserve.new.self.items in
    let new = c.push_cells.new.out.items in
    let view = c.own.view_is ∙ c.in_ok-own.ensures in
    let rows = c.requires.rows ∙ sym (ap (λ (x : Matrix). x.rows) view) in
    let cols = c.requires.cols ∙ sym (ap (λ (x : Matrix). x.cols) view) in
    keeps_more v c.own.inside.pending.items new m.counts
    (listed_more room new _ m.counts c.in_ok-push_cells.ensures.order (ap built_of c.in_ok-reserve.ensures.items))
    _ _ c.own.invariant c.total.ensures.value
    (omega (arith, c.requires.fits, c.total.ensures.value, total_kept _ _ _ c.args.self c.own.invariant view))
    (subst (λ n. AreWithin n v.cols new) rows
    (subst (λ n. AreWithin m.rows n new) cols
    (c.in_ok-push_cells.ensures.within
    (subst (λ n. AreWithin m.rows n room) (sym cols)
    (subst (λ n. AreWithin n v.cols room) (sym rows)
    (subst (AreWithin v.rows v.cols) (sym c.in_ok-reserve.ensures.items) c.own.invariant.within))))))

pub returns : goal.returns
returns c =
    more_matrix c.own.inside.layers c.own.inside.pending.items c.push_cells.new.out.items c.args.m.now.counts
    (listed_more c.reserve.new.self.items c.push_cells.new.out.items _ c.args.m.now.counts
    c.in_ok-push_cells.ensures.order (ap built_of c.in_ok-reserve.ensures.items))
    c.args.self (c.own.view_is ∙ c.in_ok-own.ensures)
