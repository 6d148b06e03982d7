use Rattle.std.proofs.Common.{ap, sym, refl, Some}
use Rattle.wire_proto.proofs.AskLemmas.{save_answered}
use Rattle.wire_proto.specs.Answering.{in_call}
use Rattle.wire_proto.proofs.asking.ask_save.Goals as goal

pub returns-in-Ok-clause-reply : goal.returns-in-Ok-clause-reply
returns-in-Ok-clause-reply g c = save_answered _ _ _ _ _ _ c.in-Ok.ensures.gives
    (ap (λ x. Some x) (sym c.saved.ensures))

pub returns-in-Err-Memory-clause-none : goal.returns-in-Err-Memory-clause-none
returns-in-Err-Memory-clause-none g c = in_call _ (_, refl)
    (rw c.in-Err-Memory.field-0-is at c.in-Err-Memory.ensures.gives) refl

pub returns-in-Err-SaveOff-clause-reply : goal.returns-in-Err-SaveOff-clause-reply
returns-in-Err-SaveOff-clause-reply g c = save_answered _ _ _ _ _ _
    (rw c.in-Err-SaveOff.field-0-is at c.in-Err-SaveOff.ensures.gives) (ap (λ x. Some x) (sym c.refused.ensures))

pub returns-in-Err-SaveFailed-clause-reply : goal.returns-in-Err-SaveFailed-clause-reply
returns-in-Err-SaveFailed-clause-reply g c = save_answered _ _ _ _ _ _
    (rw c.in-Err-SaveFailed.field-0-is at c.in-Err-SaveFailed.ensures.gives)
    (ap (λ x. Some x) (sym c.refused-in-Err-SaveFailed.ensures))
