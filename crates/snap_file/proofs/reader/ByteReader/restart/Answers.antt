use Rattle.std.proofs.Common.{length, ap, arith, ◌∙◌}
use Rattle.std.proofs.lemmas.List.{drop_all}
use Rattle.snap_file.specs.Outcomes.{ReaderState}
use Rattle.snap_file.proofs.reader.ByteReader.restart.Goals as goal

pub returns-clause-pending : goal.returns-clause-pending
returns-clause-pending c =
    let v = ap (λ (r : ReaderState). length r.pending) c.self.view_is in
    c.consume.ensures
    ∙ drop_all c.len-count.result c.self.inside.buffer (omega (arith, c.len-count.ensures, v))
