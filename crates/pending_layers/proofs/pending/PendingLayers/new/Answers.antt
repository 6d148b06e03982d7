use Rattle.std.proofs.Common.{◌+◌, length, ap, ◌∙◌, arith}
use Rattle.hyper_matrix.specs.Counts.{total}
use Rattle.hyper_matrix.specs.Cells.{cell_total}
use Rattle.hyper_matrix.specs.Matrix.{matrix}
use Rattle.hyper_matrix.proofs.CountLaws.{total-empty}
use Rattle.layer_compaction.specs.Shared.{content}
use Rattle.layer_cascade.specs.Layering.{Layering}
use Rattle.layer_cascade.proofs.KeptLemmas.{content-no_layers}
use Rattle.pending_layers.proofs.PendingLemmas.{none_waits}
use Rattle.pending_layers.proofs.pending.PendingLayers.new.Goals as goal

pub invariant_of-result : goal.invariant_of-result
invariant_of-result c = record {
  within = λ k d h. absurd (omega (arith, h, ap length c.in_ok-pending.ensures.items));
  total_is = omega (
    arith,
    ap cell_total c.in_ok-pending.ensures.items,
    ap (λ (v : Layering). total (content v.layers)) c.in_ok-layers.ensures.ok,
    ap total (content-no_layers (length c.args.cuts.now + 1)),
    total-empty,
  );
  fits = omega arith;
}

pub returns-clause-ok : goal.returns-clause-ok
returns-clause-ok c =
    none_waits c.in_ok-layers.layers c.in_ok-pending.pending.items (ap length c.in_ok-pending.ensures.items)
    ∙ ap (λ (v : Layering). matrix v.rows v.cols (content v.layers)) c.in_ok-layers.ensures.ok
    ∙ ap (matrix c.args.rows c.args.cols) (content-no_layers (length c.args.cuts.now + 1))
