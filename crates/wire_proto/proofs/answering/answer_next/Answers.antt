use Rattle.wire_proto.proofs.HeldLemmas.{hands_answered, hands_ended, hands_behind, hands_ended_behind, hands_cut}
use Rattle.wire_proto.proofs.answering.answer_next.Goals as goal

pub returns-in-Ok-clause-ok : goal.returns-in-Ok-clause-ok
returns-in-Ok-clause-ok g c =
    rw c.in-Ok.ensures.none
    (hands_answered _ _ _ _ _ _ _ _ _ _ _ _ _ _ _ _ _ _ c.send_held.ensures.setup c.in-Ok.ensures.sends
    c.answer.ensures.ok)

pub returns-in-Ok-clause-err : goal.returns-in-Ok-clause-err
returns-in-Ok-clause-err g c =
    hands_ended _ _ _ _ _ _ _ _ _ _ _ _ _ _ _ _ _ _ c.send_held.ensures.setup c.in-Ok.ensures.sends c.answer.ensures.err

pub returns-in-Err-clause-err : goal.returns-in-Err-clause-err
returns-in-Err-clause-err g c = λ kept rest h.
    hands_cut _ _ _ _ _ _ _ _ _ _ _ _ _ _ c.args.held.now.few c.in-Err.ensures.sends

pub returns-in-Ok-send_held-clause-ok : goal.returns-in-Ok-send_held-clause-ok
returns-in-Ok-send_held-clause-ok g c =
    hands_behind _ _ _ _ _ _ _ _ _ _ _ _ _ _ _ _ _ _ _ c.send_held-then-is_full.ensures.setup
    c.in-Ok-send_held.ensures.sends (rw c.in-Ok-send_held.ensures.none at c.hold_put.ensures.ok)

pub returns-in-Ok-send_held-clause-err : goal.returns-in-Ok-send_held-clause-err
returns-in-Ok-send_held-clause-err g c =
    hands_ended_behind _ _ _ _ _ _ _ _ _ _ _ _ _ _ _ _ _ _ c.send_held-then-is_full.ensures.setup
    c.in-Ok-send_held.ensures.sends (rw c.in-Ok-send_held.ensures.none at c.hold_put.ensures.err)

pub returns-in-Err-send_held-clause-err : goal.returns-in-Err-send_held-clause-err
returns-in-Err-send_held-clause-err g c = λ kept rest h.
    hands_cut _ _ _ _ _ _ _ _ _ _ _ _ _ _ c.args.held.now.few c.in-Err-send_held.ensures.sends
