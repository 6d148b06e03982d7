use Rattle.std.proofs.Common.{List, ap, sym, subst, ◌∙◌, arith}
use Rattle.cells.specs.Bounds.{AreWithin}
use Rattle.cells.specs.Order.{Rise}
use Rattle.cells.specs.declared.cell.Cell.{Cell}
use Rattle.hyper_matrix.specs.Counts.{total}
use Rattle.hyper_matrix.specs.Cells.{built_of, cell_total}
use Rattle.hyper_matrix.specs.Matrix.{Matrix, matrix}
use Rattle.hyper_matrix.specs.Parts.{shard_part}
use Rattle.hyper_matrix.proofs.MatrixLaws.{kept_total}
use Rattle.hyper_matrix.proofs.PartLaws.{part-whole, listed_part, shard_rises, shard_within, shard_total, shard_built}
use Rattle.hyper_matrix.proofs.hyper.Hyper.part.Goals as goal

pub from_sorted-requires-clause-rises : goal.from_sorted-requires-clause-rises
from_sorted-requires-clause-rises c =
    let is = listed_part c.args.s c.args.k _ _ _ c.self.inside.piece c.in_ok-cells.ensures.items c.cells.ensures
    c.in_ok-push_part.ensures in
    subst Rise (sym is) (shard_rises c.args.s c.args.k c.self.inside.piece c.self.invariant.rises)

pub from_sorted-requires-clause-within : goal.from_sorted-requires-clause-within
from_sorted-requires-clause-within c =
    let is = listed_part c.args.s c.args.k _ _ _ c.self.inside.piece c.in_ok-cells.ensures.items c.cells.ensures
    c.in_ok-push_part.ensures in
    subst (AreWithin c.self.inside.rows c.self.inside.cols) (sym is)
    (shard_within c.args.s c.args.k _ _ c.self.inside.piece c.self.invariant.within)

pub from_sorted-requires-clause-fits : goal.from_sorted-requires-clause-fits
from_sorted-requires-clause-fits c =
    let is = listed_part c.args.s c.args.k _ _ _ c.self.inside.piece c.in_ok-cells.ensures.items c.cells.ensures
    c.in_ok-push_part.ensures in
    omega (
      arith,
      ap cell_total is,
      shard_total c.args.s c.args.k c.self.inside.piece,
      c.self.invariant.kept,
      kept_total _ _ _ _ c.self.invariant,
      ap (λ (m : Matrix). total m.counts) c.self.view_is,
      c.total-bound.ensures.fits,
    )

pub returns-then-k-eq1 : goal.returns-then-k-eq1
returns-then-k-eq1 c = c.in_ok-whole.ensures ∙ ap (matrix c.args.self.now.rows c.args.self.now.cols)
    (sym (part-whole c.args.self.now.counts c.args.s c.args.k c.requires c.if-k-eq1.true))

pub returns : goal.returns
returns c =
    let cells = c.self.inside.piece in
    let is = listed_part c.args.s c.args.k _ _ _ cells c.in_ok-cells.ensures.items c.cells.ensures
    c.in_ok-push_part.ensures in
    c.in_ok-p.ensures.value ∙ ap (λ (l : List Cell). matrix c.self.inside.rows c.self.inside.cols (built_of l)) is
    ∙ ap (matrix c.self.inside.rows c.self.inside.cols)
    (shard_built c.args.s c.args.k cells c.self.invariant.rises)
    ∙ ap (shard_part c.args.s c.args.k) c.self.view_is
