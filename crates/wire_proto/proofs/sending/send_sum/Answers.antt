use Rattle.std.proofs.Common.{List, ℕ, subst, arith}
use Rattle.wire_proto.specs.Closing.{Sends}
use Rattle.mm_laws.specs.MatrixText.{matrix_text}
use Rattle.wire_proto.proofs.AskLemmas.{text_carried, text_refused}
use Rattle.wire_proto.proofs.sending.send_sum.Goals as goal

pub returns-in-Some-clause-sends : goal.returns-in-Some-clause-sends
returns-in-Some-clause-sends g c =
    let e = c.in-Some.ensures in
    subst (λ (bytes : List ℕ). Sends g.L.Sink.write_takes g.L.Sink.failure_count c.args.link.now c.send_text.new.link
    bytes
    c.args.written c.send_text.result) (text_carried (matrix_text c.args.sum.now) (omega (arith, e.0, e.1)))
    c.send_text.ensures

pub returns-in-None-clause-sends : goal.returns-in-None-clause-sends
returns-in-None-clause-sends g c =
    subst (λ (bytes : List ℕ). Sends g.L.Sink.write_takes g.L.Sink.failure_count c.args.link.now c.send_reply.new.link
    bytes
    c.args.written c.send_reply.result)
    (text_refused (matrix_text c.args.sum.now) _ c.in-None.ensures c.refused.ensures) c.send_reply.ensures.sends
