use Rattle.std.proofs.Common.{List, ℕ, subst, ◌∙◌}
use Rattle.byte_io.specs.Writing.{HasTaken}
use Rattle.snap_salvage.specs.Lines.{salvage_line}
use Rattle.snap_salvage.proofs.salvage.write_salvaged.Goals as goal

pub returns-in-Ok-clause-written : goal.returns-in-Ok-clause-written
returns-in-Ok-clause-written g c =
    subst (λ (text : List ℕ). HasTaken g.W.Sink.write_takes g.W.Sink.failure_count c.args.w.now c.write_all.new.w text)
    (c.as_bytes.ensures.value ∙ c.as_str.ensures.value ∙ c.line_of-line.ensures
    ∙ (λ i. salvage_line (c.count_of.ensures i) (c.total_of.ensures i) c.args.end c.args.left.now))
    c.in-Ok.ensures.ok
