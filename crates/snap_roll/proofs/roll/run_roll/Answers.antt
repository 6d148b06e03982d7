use Rattle.std.proofs.Common.{◌≡◌, ◌∙◌, ℕ, List, ap, subst, sym}
use Rattle.byte_io.specs.Writing.{HasStopped, HasTaken}
use Rattle.byte_io.specs.declared.fault.WriteFault.{WriteFault}
use Rattle.batch_store.specs.Accepted.{Accepted}
use Rattle.snap_roll.specs.Held.{added_in}
use Rattle.snap_roll.specs.Rolls.{roll_line}
use Rattle.snap_roll.proofs.roll.run_roll.Goals as goal

pub returns-in-Ok-clause-ok : goal.returns-in-Ok-clause-ok
returns-in-Ok-clause-ok g c =
    let held = c.in_ok-read.ensures.ok in
    let added = added_in c.in_ok-read.read in (
      held.0,
      added,
      held.1,
      held.2,
      subst (λ (text : List ℕ). HasTaken g.W.Sink.write_takes g.W.Sink.failure_count c.args.w.now c.write_line.new.w
          text)
          (c.line_of.ensures ∙ ap (λ (a : Accepted). roll_line added a) (sym held.3))
          c.in-Ok.ensures.ok,
    )

pub returns-clause-output : goal.returns-clause-output
returns-clause-output g c = λ fault is.
    let held = c.in_ok-read.ensures.ok in
    let added = added_in c.in_ok-read.read in
    let same : c.in-Err.fault ≡ fault = cc in (
      held.0,
      added,
      held.1,
      held.2,
      subst (λ (f : WriteFault). HasStopped g.W.Sink.write_takes g.W.Sink.failure_count c.args.w.now
          c.write_line.new.w (roll_line added held.0.last.state) f.written) same
          (subst (λ (text : List ℕ). HasStopped g.W.Sink.write_takes g.W.Sink.failure_count c.args.w.now
          c.write_line.new.w text c.in-Err.fault.written)
          (c.line_of.ensures ∙ ap (λ (a : Accepted). roll_line added a) (sym held.3))
          c.in-Err.ensures.err),
    )
