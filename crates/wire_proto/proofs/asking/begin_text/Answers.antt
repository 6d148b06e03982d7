use Rattle.std.proofs.Common.{refl}
use Rattle.wire_proto.proofs.HeldLemmas.{text_refused, text_begun, text_out}
use Rattle.wire_proto.proofs.asking.begin_text.Goals as goal

pub returns-in-Err-Refused-clause-begins : goal.returns-in-Err-Refused-clause-begins
returns-in-Err-Refused-clause-begins g c =
    text_refused _ _ _ _ _ _ _ c.in-Err-Refused.code c.in-Err-Refused.detail _
    (rw (← c.setup-setup.ensures, ← c.as_slice.ensures) (rw c.in-Err-Refused.field-0-is at c.in-Err-Refused.ensures))
    (rw c.in-Err-Refused.field-0-is at c.refused_with.ensures) refl

pub returns-clause-begins : goal.returns-clause-begins
returns-clause-begins g c =
    text_begun _ _ _ _ _ _ _ _ _ _ (rw (← c.setup-setup.ensures, ← c.as_slice.ensures) c.in-Ok.ensures)
    c.begin_put-answer.ensures.begins c.held_of.ensures.begun

pub returns-clause-none : goal.returns-clause-none
returns-clause-none g c =
    text_out _ _ _ _ _ _ _ _ _ _ (rw (← c.setup-setup.ensures, ← c.as_slice.ensures) c.in-Ok.ensures)
    c.begin_put-answer.ensures.begins c.held_of.ensures.none
