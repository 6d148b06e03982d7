use Rattle.std.proofs.Common.{ap, ◌∙◌, arith}
use Rattle.std.specs.FinMap.{len}
use Rattle.hyper_matrix.specs.Matrix.{Matrix}
use Rattle.layer_compaction.proofs.layer.Layer.taking.Goals as goal

pub returns : goal.returns
returns c = (
  c.in_ok-layer-3.ensures ∙ c.in_ok-layer-2.ensures ∙ c.in_ok-layer.ensures,
  omega (
    arith,
    c.if-entries-cut.false,
    c.entries.ensures,
    ap (λ (m : Matrix). len m.counts) c.in_ok-layer-3.ensures,
  ),
)

pub returns-then-entries-cut : goal.returns-then-entries-cut
returns-then-entries-cut c = (
  c.in_ok-layer-3.ensures ∙ c.in_ok-layer-2.ensures ∙ c.in_ok-layer.ensures,
  omega (
    arith,
    c.if-entries-cut.true,
    c.entries.ensures,
    ap (λ (m : Matrix). len m.counts) c.in_ok-layer-3.ensures,
  ),
)

pub returns-then-most_entries-cut : goal.returns-then-most_entries-cut
returns-then-most_entries-cut c =
    (c.in_ok-layer.ensures, omega (arith, c.if-most_entries-cut.true, c.most_entries.ensures))
