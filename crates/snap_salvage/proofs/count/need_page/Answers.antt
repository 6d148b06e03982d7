use Rattle.std.proofs.Common.{◌∙◌}
use Rattle.snap_salvage.proofs.SumLemmas.{read_more}
use Rattle.snap_salvage.proofs.count.need_page.Goals as goal

pub returns-in-Ok-eq0-clause-read : goal.returns-in-Ok-eq0-clause-read
returns-in-Ok-eq0-clause-read g c = λ s done was.
    read_more g.S.Source.read_gives s c.pieces.source c.fill.new.r c.pieces.buffer c.fill.new.self done
    c.in-Ok-eq0.field-0 (c.pieces.invariant.read s done was) c.in-Ok-eq0.ensures.ok

pub pieces-preserved : goal.pieces-preserved
pieces-preserved g c = record {
  failures = c.in-Ok.ensures.no_failure ∙ c.pieces.invariant.failures;
  read = λ s done was.
      read_more g.S.Source.read_gives s c.pieces.source c.fill.new.r c.pieces.buffer c.fill.new.self done
      c.in-Ok.field-0 (c.pieces.invariant.read s done was) c.in-Ok.ensures.ok;
}
