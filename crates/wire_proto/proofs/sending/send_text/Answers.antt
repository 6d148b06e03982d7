use Rattle.std.proofs.Common.{ap, subst, ◌++◌, ◌∙◌, Err}
use Rattle.wire_proto.proofs.SendLemmas.{sends_behind, sends_less}
use Rattle.wire_frames.specs.Frames.{frame, head_bytes}
use Rattle.wire_proto.specs.Closing.{Sends}
use Rattle.mm_laws.specs.MatrixText.{matrix_text}
use Rattle.wire_proto.proofs.sending.send_text.Goals as goal

pub returns-in-Ok : goal.returns-in-Ok
unfolding frame
returns-in-Ok g c =
    let e = c.as_slice.ensures.value ∙ c.text_head-head.ensures ∙ ap (λ n. head_bytes 133 n) c.requires.size.0 in
    subst (λ v. Sends g.L.Sink.write_takes g.L.Sink.failure_count c.args.link.now c.send_cells.new.link
    (v ++ (matrix_text c.args.sum.now)) c.args.written c.send_cells.result) e
    (sends_behind _ _ _ _ _ _ _ _ c.in-Ok.sent _ c.in-Ok.ensures.0 c.in-Ok.ensures.1 c.send_cells.ensures)

pub returns-in-Err : goal.returns-in-Err
unfolding frame
returns-in-Err g c =
    let e = c.as_slice.ensures.value ∙ c.text_head-head.ensures ∙ ap (λ n. head_bytes 133 n) c.requires.size.0 in
    subst (λ v. Sends g.L.Sink.write_takes g.L.Sink.failure_count c.args.link.now c.send.new.link
    (v ++ (matrix_text c.args.sum.now)) c.args.written (Err c.in-Err.fault)) e
    (sends_less _ _ _ _ _ _ _ _ c.in-Err.ensures)
