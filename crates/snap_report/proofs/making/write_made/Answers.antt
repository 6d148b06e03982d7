use Rattle.std.proofs.Common.{List, ℕ, subst, ◌∙◌}
use Rattle.byte_io.specs.Writing.{HasTaken}
use Rattle.snap_report.specs.Made.{made_line}
use Rattle.snap_report.proofs.making.write_made.Goals as goal

pub returns-in-Ok-clause-written : goal.returns-in-Ok-clause-written
returns-in-Ok-clause-written g c =
    subst (λ (text : List ℕ). HasTaken g.W.Sink.write_takes g.W.Sink.failure_count c.args.w.now c.write_all.new.w text)
    (c.as_bytes.ensures.value ∙ c.as_str.ensures.value ∙ c.line_of-line.ensures
    ∙ (λ i. made_line c.args.word.now (c.count_of.ensures i) (c.accepted_total.ensures i))) c.in-Ok.ensures.ok
