use Rattle.std.proofs.Common.{sym}
use Rattle.wire_frames.proofs.FrontLemmas.{front_short, front_part, bad_gives, looks_whole}
use Rattle.wire_frames.proofs.heads.look_at.Goals as goal

pub returns-in_default : goal.returns-in_default
returns-in_default c = front_short c.args.bytes.now c.in_default.ensures

pub returns-in-Some-fault_in : goal.returns-in-Some-fault_in
returns-in-Some-fault_in c = bad_gives c.args.bytes.now c.in-Some-fault_in.fault c.in-Some.ensures.0
    (rw (← c.in-Some.ensures.1, ← c.in-Some.ensures.2) (sym c.in-Some-fault_in.ensures))

pub returns-then-bytes-head : goal.returns-then-bytes-head
returns-then-bytes-head c = front_part c.args.bytes.now c.in-Some.ensures.0
    (rw (← c.in-Some.ensures.1, ← c.in-Some.ensures.2) (sym c.in_default-fault_in.ensures))
    (rw (← c.in-Some.ensures.1) c.if-bytes-head.true)

pub returns : goal.returns
returns c = rw (c.in-Some.ensures.1, c.in-Some.ensures.2) (looks_whole c.args.bytes.now c.in-Some.ensures.0
    (rw (← c.in-Some.ensures.1, ← c.in-Some.ensures.2) (sym c.in_default-fault_in.ensures))
    (rw (← c.in-Some.ensures.1) c.if-bytes-head.false))
