use Rattle.std.proofs.Common.{◌≡◌, ◌<◌, ◌%◌, ℕ, List, length, get_or, refl, arith}
use Rattle.std.proofs.lemmas.Nat.{mod_below}
use Rattle.std.proofs.lemmas.List.{get_or_default}
use Rattle.cells.specs.declared.cell.Cell.{Cell}
use Rattle.hyper_matrix.proofs.PartLaws.{PutInLine, in_line, line_more, in_line_all}
use Rattle.hyper_matrix.proofs.hyper.parts.put_in_line.Goals as goal

-- the next cell's place is in the line
next_in_line : (k s i : ℕ) (line : List Cell) (next : List ℕ) (cells : List Cell) (d : Cell) → 0 < k →
    i < length cells → s ≡ (get_or cells i d).row % k → PutInLine k line next cells i → get_or next s 0 < length line
next_in_line k s i line next cells d some lt is so_far =
    let x = get_or cells i d in
    in_line k line next cells i s (get_or next s 0) x lt (get_or_default cells i d x lt) is
    (omega (arith, is, mod_below x.row k some)) refl so_far

pub overflow_add-next : goal.overflow_add-next
overflow_add-next c =
    let d : Cell = record { row = 0; col = 0; count = 0 } in
    omega (
      arith,
      next_in_line (length c.args.next.now) c.shard_of-s.result c.loop-cell.cell-index c.loop-cell.line c.loop-cell.next
          c.args.cells.now d c.requires.some c.loop-cell-test.true c.shard_of-s.ensures c.loop-cell.invariant,
    )

pub offset_bounds-line-at : goal.offset_bounds-line-at
offset_bounds-line-at c =
    let d : Cell = record { row = 0; col = 0; count = 0 } in
    omega (
      arith,
      next_in_line (length c.args.next.now) c.shard_of-s.result c.loop-cell.cell-index c.loop-cell.line c.loop-cell.next
          c.args.cells.now d c.requires.some c.loop-cell-test.true c.shard_of-s.ensures c.loop-cell.invariant,
    )

pub bounds-line-at : goal.bounds-line-at
bounds-line-at c =
    let d : Cell = record { row = 0; col = 0; count = 0 } in
    next_in_line (length c.args.next.now) c.shard_of-s.result c.loop-cell.cell-index c.loop-cell.line c.loop-cell.next
    c.args.cells.now d c.requires.some c.loop-cell-test.true c.shard_of-s.ensures c.loop-cell.invariant

pub loop-cell-preserved : goal.loop-cell-preserved
loop-cell-preserved c =
    let d : Cell = record { row = 0; col = 0; count = 0 } in
    let k = length c.args.next.now in
    let cells = c.args.cells.now in
    let i = c.loop-cell.cell-index in
    let x = get_or cells i d in
    let s = c.shard_of-s.result in
    line_more k c.loop-cell.line c.loop-cell.next cells i s (get_or c.loop-cell.next s 0) x c.loop-cell-test.true
    (get_or_default cells i d x c.loop-cell-test.true) c.shard_of-s.ensures
    (omega (arith, c.shard_of-s.ensures, mod_below x.row k c.requires.some)) refl c.loop-cell.invariant

pub returns-clause-line : goal.returns-clause-line
returns-clause-line c = in_line_all (length c.args.next.now) c.loop-cell.line c.loop-cell.next c.args.cells.now
    c.loop-cell.cell-index c.loop-cell-test.false c.loop-cell.invariant
