use Rattle.std.proofs.Common.{◌≡◌, ℕ, List, ap, ◌∙◌, arith}
use Rattle.std.specs.FinMap.{empty}
use Rattle.cells.specs.declared.cell.Cell.{Cell}
use Rattle.hyper_matrix.specs.Cells.{built_of}
use Rattle.hyper_matrix.specs.Counts.{ewise_add, total}
use Rattle.hyper_matrix.specs.Matrix.{Matrix, matrix}
use Rattle.hyper_matrix.proofs.BuiltOfLaws.{total-built_of}
use Rattle.hyper_matrix.proofs.CountLaws.{total-empty}
use Rattle.layer_compaction.specs.Shared.{content}
use Rattle.layer_cascade.specs.Layering.{Layering}
use Rattle.layer_cascade.proofs.CascadeLaws.{content-cascade}
use Rattle.layer_compaction.proofs.LayerLemmas.{empty-ewise_add}
use Rattle.pending_layers.proofs.pending.with_places.Goals as goal

pub into_sum_with_cells-requires-clause-fits : goal.into_sum_with_cells-requires-clause-fits
into_sum_with_cells-requires-clause-fits c = omega (
  arith,
  c.requires.fits,
  ap (λ (m : Matrix). total m.counts) c.new-none.ensures,
  total-empty,
)

-- the matrix of the list alone
built : (m none : Matrix) (rows cols : ℕ) (cells : List Cell) → none ≡ matrix rows cols empty →
    m ≡ matrix none.rows none.cols (ewise_add none.counts (built_of cells)) → m.counts ≡ built_of cells
built m none rows cols cells is_none is =
    ap (λ (x : Matrix). x.counts) is ∙ ap (λ (x : Matrix). ewise_add x.counts (built_of cells)) is_none
    ∙ empty-ewise_add (built_of cells)

pub plan-requires-clause-fits : goal.plan-requires-clause-fits
plan-requires-clause-fits c = omega (
  arith,
  c.requires.fits,
  ap total (built c.in_ok-m.m c.new-none.result _ _ c.args.cells.now c.new-none.ensures c.in_ok-m.ensures),
  total-built_of c.args.cells.now,
)

pub returns-clause-sum : goal.returns-clause-sum
returns-clause-sum c =
    ap (λ (v : Layering). content v.layers) (c.commit.ensures ∙ c.in_ok-plan.ensures)
    ∙ content-cascade c.args.layers.layers c.args.layers.cuts c.in_ok-m.m.counts c.dims-rows.ensures.kept.count
    ∙ ap (ewise_add (content c.args.layers.layers))
    (built c.in_ok-m.m c.new-none.result _ _ c.args.cells.now c.new-none.ensures c.in_ok-m.ensures)
