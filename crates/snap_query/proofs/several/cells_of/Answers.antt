use Rattle.std.proofs.Common.{◌∙◌, ap, arith}
use Rattle.hyper_matrix.specs.Cells.{built_of}
use Rattle.hyper_matrix.specs.Counts.{total}
use Rattle.hyper_matrix.proofs.BuiltOfLaws.{total-built_of}
use Rattle.snap_query.proofs.several.cells_of.Goals as goal

pub returns-clause-fits : goal.returns-clause-fits
returns-clause-fits c =
    omega (
      arith,
      c.total-total.ensures.fits,
      total-built_of c.in_ok-cells.cells.items,
      ap total (ap built_of c.in_ok-cells.ensures.items ∙ c.as_cells.ensures.builds),
    )
