use Rattle.std.proofs.Common.{ℕ, ap, sym, subst, refl, arith}
use Rattle.cells.specs.Bounds.{AreWithin}
use Rattle.hyper_matrix.specs.Counts.{total}
use Rattle.hyper_matrix.specs.Cells.{built_of}
use Rattle.hyper_matrix.proofs.BuiltOfLaws.{total-built_of, built_of-none}
use Rattle.hyper_matrix.specs.Matrix.{matrix}
use Rattle.hyper_matrix.proofs.MatrixLaws.{with_empty, sum_within, sum_total}
use Rattle.hyper_matrix.proofs.hyper.ewise_add.with_cells.Goals as goal

pub merged-requires-clause-fits : goal.merged-requires-clause-fits
merged-requires-clause-fits c = omega (
  arith,
  total-built_of c.as_cells.result.now,
  ap total c.as_cells.ensures.builds,
  c.requires.fits,
)

pub returns-then-cells-eq0 : goal.returns-then-cells-eq0
returns-then-cells-eq0 c = with_empty c.args.matrix.now (matrix 0 0 (built_of c.args.cells.now)) _ c.in_ok-sum.ensures
    (sym (built_of-none c.args.cells.now (omega arith)))

pub from_sorted-requires-clause-within : goal.from_sorted-requires-clause-within
from_sorted-requires-clause-within c = subst (λ (dims : ℕ × ℕ). AreWithin dims.0 dims.1 c.in_ok-list.list.items)
    (sym c.dims-rows.ensures.value)
    (sum_within _ _ _ _ c.in_ok-list.ensures refl _ _ c.as_cells.ensures.within c.requires.within)

pub from_sorted-requires-clause-fits : goal.from_sorted-requires-clause-fits
from_sorted-requires-clause-fits c = omega (
  arith,
  sum_total _ _ _ _ c.in_ok-list.ensures refl,
  total-built_of c.as_cells.result.now,
  ap total c.as_cells.ensures.builds,
  c.requires.fits,
)
