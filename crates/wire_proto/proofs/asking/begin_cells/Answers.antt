use Rattle.std.proofs.Common.{refl}
use Rattle.wire_proto.proofs.HeldLemmas.{cells_refused, cells_begun, cells_out}
use Rattle.wire_proto.proofs.asking.begin_cells.Goals as goal

pub returns-in-Err-Refused-clause-begins : goal.returns-in-Err-Refused-clause-begins
returns-in-Err-Refused-clause-begins g c =
    cells_refused _ _ _ _ _ _ _ c.in-Err-Refused.code c.in-Err-Refused.detail _
    (rw (← c.setup-setup.ensures) (rw c.in-Err-Refused.field-0-is at c.in-Err-Refused.ensures))
    (rw c.in-Err-Refused.field-0-is at c.refused_with.ensures) refl

pub returns-in-Ok-clause-begins : goal.returns-in-Ok-clause-begins
returns-in-Ok-clause-begins g c =
    cells_begun _ _ _ _ _ _ _ _ _ _ (rw (← c.setup-setup.ensures) c.in-Ok.ensures)
    c.begin_put-answer.ensures.begins c.held_of.ensures.begun

pub returns-in-Ok-clause-none : goal.returns-in-Ok-clause-none
returns-in-Ok-clause-none g c =
    cells_out _ _ _ _ _ _ _ _ _ _ (rw (← c.setup-setup.ensures) c.in-Ok.ensures)
    c.begin_put-answer.ensures.begins c.held_of.ensures.none
