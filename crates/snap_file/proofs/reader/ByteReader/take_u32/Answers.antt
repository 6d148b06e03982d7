use Rattle.std.proofs.Common.{ap, take, ◌∙◌}
use Rattle.std.specs.Int.{w32, from_be_bytes}
use Rattle.snap_file.specs.Outcomes.{ReaderState}
use Rattle.snap_file.proofs.reader.ByteReader.take_u32.Goals as goal

pub returns-clause-value : goal.returns-clause-value
returns-clause-value c =
    c.u32_at-n.ensures ∙ ap (λ l. from_be_bytes w32 (take 4 l))
    (c.pending.ensures.value ∙ ap (λ (r : ReaderState). r.pending) c.self.view_is)
