use Rattle.std.proofs.Common.{◌∙◌, arith}
use Rattle.wire_proto.proofs.AskLemmas.{lines_carried, lines_refused}
use Rattle.wire_proto.proofs.LongLemmas.{lines_made, lines_short}
use Rattle.wire_proto.proofs.telling.lines_reply.Goals as goal

pub returns-then-text-clause-bytes : goal.returns-then-text-clause-bytes
returns-then-text-clause-bytes c = lines_refused c.args.text.now _ c.if-text.true c.refuses.ensures.bytes

pub returns-clause-bytes : goal.returns-clause-bytes
returns-clause-bytes c =
    lines_made c.args.text.now _ _ c.in_ok-out.ensures c.in_ok-extend_from_slice.ensures.items ∙
    lines_carried c.args.text.now (omega (arith, c.if-text.false))

pub returns-clause-few : goal.returns-clause-few
returns-clause-few c = lines_short c.args.text.now _ (omega (arith, c.if-text.false))
    (lines_made c.args.text.now _ _ c.in_ok-out.ensures c.in_ok-extend_from_slice.ensures.items)
