use Rattle.std.proofs.Common.{take, drop, ap, arith, length-drop}
use Rattle.std.proofs.lemmas.List.{take_rest}
use Rattle.byte_io.proofs.SinkLemmas.{write_more, write_no_more}
use Rattle.byte_io.proofs.write.write_all.Goals as goal

pub returns-in-Ok-eq0-clause-err : goal.returns-in-Ok-eq0-clause-err
returns-in-Ok-eq0-clause-err g c =
    write_no_more _ _ _ _ _ c.args.bytes.now c.loop-done.done _ c.loop-done-test.true c.loop-done.invariant.has_taken
    (rw (take_rest c.args.bytes.now c.loop-done.done) at c.in-Ok-eq0.ensures.takes)
    (λ some. (
      some,
      ap (λ k. take k (drop c.loop-done.done c.args.bytes.now)) c.in-Ok-eq0.field-0-test,
      c.in-Ok-eq0.ensures.ok,
    ))

pub returns-in-Err-clause-err : goal.returns-in-Err-clause-err
returns-in-Err-clause-err g c =
    write_no_more _ _ _ _ _ c.args.bytes.now c.loop-done.done _ c.loop-done-test.true c.loop-done.invariant.has_taken
    (rw (take_rest c.args.bytes.now c.loop-done.done) at c.in-Err.ensures.takes)
    (λ some. c.in-Err.ensures.err)

pub loop-done-preserved : goal.loop-done-preserved
loop-done-preserved g c =
    let within = c.loop-done.invariant.within in
    let bound = rw (take_rest c.args.bytes.now c.loop-done.done) at c.in-Ok.ensures.bound in
    record {
      within = omega (arith, bound, length-drop c.loop-done.done c.args.bytes.now);
      has_taken = write_more _ _ _ _ _ c.args.bytes.now c.loop-done.done c.in-Ok.count within
          c.loop-done.invariant.has_taken
          (rw (take_rest c.args.bytes.now c.loop-done.done) at c.in-Ok.ensures.takes) (let some = c.in-Ok.count-test.1
          in omega arith) bound c.in-Ok.ensures.ok;
    }
