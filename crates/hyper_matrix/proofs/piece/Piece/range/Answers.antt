use Rattle.std.proofs.Common.{◌+◌, List, length, ap, ◌∙◌, arith}
use Rattle.std.specs.List.{slice_range}
use Rattle.cells.specs.declared.cell.Cell.{Cell}
use Rattle.hyper_matrix.specs.Pieces.{shared_cells}
use Rattle.hyper_matrix.proofs.PieceLaws.{range-length, range-range}
use Rattle.hyper_matrix.proofs.piece.Piece.range.Goals as goal

pub overflow_add-result : goal.overflow_add-result
overflow_add-result c = omega (
  arith,
  c.self.invariant.0,
  ap length c.self.view_is,
  range-length (shared_cells c.self.inside.list) c.self.inside.from c.self.inside.to c.self.invariant.0
      c.self.invariant.1,
  c.requires.0,
  c.requires.1,
)

pub overflow_add-result-2 : goal.overflow_add-result-2
overflow_add-result-2 c = omega (
  arith,
  c.self.invariant.0,
  ap length c.self.view_is,
  range-length (shared_cells c.self.inside.list) c.self.inside.from c.self.inside.to c.self.invariant.0
      c.self.invariant.1,
  c.requires.0,
  c.requires.1,
)

pub returns : goal.returns
returns c =
    let all = shared_cells c.self.inside.list in
    let from = c.self.inside.from in
    let to = c.self.inside.to in
    ap (λ (l : List Cell). slice_range l (from + c.args.from) (from + c.args.to)) c.in_ok-list.ensures
    ∙ range-range all from to c.args.from c.args.to c.self.invariant.0 c.self.invariant.1 c.requires.0
    (omega (
      arith,
      c.requires.1,
      ap length c.self.view_is,
      range-length all from to c.self.invariant.0 c.self.invariant.1,
    ))
    ∙ ap (λ (l : List Cell). slice_range l c.args.from c.args.to) c.self.view_is
