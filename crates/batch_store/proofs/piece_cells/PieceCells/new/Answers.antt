use Rattle.std.proofs.Common.{length, sym, arith}
use Rattle.std.proofs.lemmas.List.{length-map}
use Rattle.std.specs.Arc.{arc_value}
use Rattle.layer_compaction.specs.Shared.{values}
use Rattle.batch_store.proofs.MergedLaws.{memory_begins, memory_has}
use Rattle.batch_store.proofs.piece_cells.PieceCells.new.Goals as goal

pub invariant_of-result : goal.invariant_of-result
invariant_of-result c =
    let list = c.args.list.now in
    let many = length-map list arc_value in
    memory_begins c.start_each.new.left _ (values list) c.requires.pieces.0 c.requires.pieces.1
    (omega (arith, many, c.requires.some)) (omega (arith, many, c.requires.few)) c.requires.pieces.2 c.start_each.ensures
    (length list) (sym many)

pub returns : goal.returns
returns c =
    let list = c.args.list.now in
    let many = length-map list arc_value in
    memory_has c.start_each.new.left _ (values list) c.requires.pieces.0 c.requires.pieces.1
    (omega (arith, many, c.requires.some)) (omega (arith, many, c.requires.few)) c.requires.pieces.2 c.start_each.ensures
    (length list) (sym many)
