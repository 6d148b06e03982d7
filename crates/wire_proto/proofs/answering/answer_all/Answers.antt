use Rattle.std.proofs.Common.{◌∙◌, refl, arith}
use Rattle.wire_frames.proofs.FrontLemmas.{front_shorter}
use Rattle.wire_proto.proofs.HeldLemmas.{carries_handed, carries_handed_end, carries_sent, carries_cut, carries_refused}
use Rattle.wire_proto.proofs.HeldLemmas.{stands_holds}
use Rattle.wire_proto.proofs.answering.answer_all.Goals as goal

pub requests-init : goal.requests-init
requests-init g c = record {
  failures = refl;
  fact = c.requires.fact;
  setup = refl;
  room = rw c.new-held.ensures (omega arith);
  carries = rw c.new-held.ensures (λ l0 s0 turns st. stands_holds _ _ _ _ _ _ _ _ _ _ _ _ _ st);
}

pub requests-smaller : goal.requests-smaller
requests-smaller g c = omega (arith, front_shorter _ _ _ (rw c.in-Ok-Some.field-0-is at c.in-Ok-Some.ensures))

pub requests-preserved : goal.requests-preserved
requests-preserved g c =
    let h = rw c.in-Ok-Some.field-0-is at c.in-Ok-Some.ensures in
    let less = front_shorter _ _ _ h in
    let more = c.in-Ok.ensures.room in
    let room = c.requests.invariant.room in
    record {
      failures = c.in-Ok.ensures.failures ∙ c.requests.invariant.failures;
      fact = c.answer_next.ensures.fact;
      setup = c.answer_next.ensures.setup ∙ c.requests.invariant.setup;
      room = omega (arith, less, more, room);
      carries = carries_handed _ _ _ _ _ _ _ _ _ _ _ _ _ _ _ _ _ _ _ _ _ c.requests.invariant.carries
          c.requests.invariant.setup (c.in-Ok.ensures.ok _ _ h);
    }

pub returns-in-Err-answer_next-clause-err : goal.returns-in-Err-answer_next-clause-err
returns-in-Err-answer_next-clause-err g c =
    let h = rw c.in-Ok-Some.field-0-is at c.in-Ok-Some.ensures in
    carries_handed_end _ _ _ _ _ _ _ _ _ _ _ _ _ _ _ _ _ _ _ c.requests.invariant.carries c.requests.invariant.setup
    (c.in-Err-answer_next.ensures.err _ _ h)

pub returns-in-Ok-None-clause-ok : goal.returns-in-Ok-None-clause-ok
returns-in-Ok-None-clause-ok g c =
    let h = rw c.in-Ok-None.field-0-is at c.in-Ok-None.ensures in
    rw h.1
    (carries_sent _ _ _ _ _ _ _ _ _ _ _ _ _ _ _ _ _ _ c.requests.invariant.carries c.send_held.ensures.sends)

pub returns-in-Ok-None-clause-err : goal.returns-in-Ok-None-clause-err
returns-in-Ok-None-clause-err g c =
    carries_cut _ _ _ _ _ _ _ _ _ _ _ _ _ _ _ _ _ _ c.requests.held.few c.requests.invariant.carries
    c.send_held.ensures.sends

pub returns-in-Err-clause-err : goal.returns-in-Err-clause-err
returns-in-Err-clause-err g c =
    carries_refused _ _ _ _ _ _ _ _ _ _ _ _ _ _ _ _ _ _ _ _ c.requests.held.few c.in-Err.ensures
    c.requests.invariant.carries c.refuse_behind.ensures.closes
