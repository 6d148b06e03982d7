use Rattle.std.proofs.Common.{◌+◌, refl, ap}
use Rattle.wire_proto.proofs.PutLemmas.{larger_dimensions, sum_too_large}
use Rattle.wire_proto.specs.Answering.{faulty}
use Rattle.wire_proto.proofs.texts.batch_of.Goals as goal

pub returns-in-Err-DimensionsTooLarge : goal.returns-in-Err-DimensionsTooLarge
returns-in-Err-DimensionsTooLarge c =
    larger_dimensions _ _ c.in-Ok.file c.in-Ok.ensures.ok
    (rw c.in-Err-DimensionsTooLarge.field-0-is at c.in-Err-DimensionsTooLarge.ensures.err)

pub returns-in-Ok : goal.returns-in-Ok
returns-in-Ok c =
    sum_too_large _ _ c.in-Ok.file c.in-Ok.ensures.ok
    (rw c.in-Err-SumTooLarge.field-0-is at c.in-Err-SumTooLarge.ensures.err)

pub returns : goal.returns
returns c = faulty c.in-Err.fault.kind c.in-Err.fault.line (c.in-Err.ensures.err c.in_default.not-Memory)
    (ap (λ k. 100 + k) c.number_of.ensures.value) refl
