use Rattle.std.proofs.Common.{ap, sym, refl, Some}
use Rattle.wire_proto.proofs.AskLemmas.{fold_answered}
use Rattle.wire_proto.specs.Answering.{in_call}
use Rattle.wire_proto.proofs.asking.ask_fold.Goals as goal

pub returns-in-Ok-clause-reply : goal.returns-in-Ok-clause-reply
returns-in-Ok-clause-reply g c = fold_answered _ _ _ _ _ _ c.in-Ok.ensures.gives
    (ap (λ x. Some x) (sym c.saved.ensures))

pub returns-in-Err-Memory-clause-none : goal.returns-in-Err-Memory-clause-none
returns-in-Err-Memory-clause-none g c = in_call _ (_, refl)
    (rw c.in-Err-Memory.field-0-is at c.in-Err-Memory.ensures.gives) refl

pub returns-in-Err-LogFailed-clause-reply : goal.returns-in-Err-LogFailed-clause-reply
returns-in-Err-LogFailed-clause-reply g c = fold_answered _ _ _ _ _ _
    (rw c.in-Err-LogFailed.field-0-is at c.in-Err-LogFailed.ensures.gives) (ap (λ x. Some x) (sym c.refused.ensures))

pub returns-in-Err-RecordsDiffer-clause-reply : goal.returns-in-Err-RecordsDiffer-clause-reply
returns-in-Err-RecordsDiffer-clause-reply g c = fold_answered _ _ _ _ _ _
    (rw c.in-Err-RecordsDiffer.field-0-is at c.in-Err-RecordsDiffer.ensures.gives)
    (ap (λ x. Some x) (sym c.refused-in-Err-RecordsDiffer.ensures))
