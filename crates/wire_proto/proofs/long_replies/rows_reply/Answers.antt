use Rattle.std.proofs.Common.{arith}
use Rattle.wire_proto.proofs.LongLemmas.{rows_made}
use Rattle.wire_proto.proofs.long_replies.rows_reply.Goals as goal

pub returns : goal.returns
returns c = rows_made c.args.rows.now _ _ _ (omega arith) c.in_ok-out.ensures c.in_ok-push_rows.ensures
