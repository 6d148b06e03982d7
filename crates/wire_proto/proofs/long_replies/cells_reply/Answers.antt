use Rattle.std.proofs.Common.{◌∙◌, ap, arith, map, ◌++◌, List}
use Rattle.cells.specs.declared.cell.Cell.{Cell}
use Rattle.std.proofs.lemmas.List.{length-map}
use Rattle.std.specs.Prelude.{flat_map}
use Rattle.hyper_matrix.specs.Cells.{entry_of}
use Rattle.wire_proto.specs.Questions.{entry_bytes}
use Rattle.wire_proto.proofs.LongLemmas.{cells_made}
use Rattle.wire_proto.proofs.long_replies.cells_reply.Goals as goal

pub returns : goal.returns
returns c = cells_made c.args.page.now.more (map entry_of c.args.page.now.cells.items) _ _ _ _
    (omega (arith, length-map c.args.page.now.cells.items entry_of, c.len.ensures)) c.in_ok-out.ensures
    c.in_ok-push_more.ensures
    (c.in_ok-push_cells.ensures ∙
    ap (λ (l : List Cell). c.push_more.new.out.items ++ flat_map entry_bytes (map entry_of l)) c.deref.ensures.value)
