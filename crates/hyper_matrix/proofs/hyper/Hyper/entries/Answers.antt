use Rattle.std.proofs.Common.{sym, ap, ◌∙◌}
use Rattle.std.specs.FinMap.{len}
use Rattle.hyper_matrix.specs.Matrix.{Matrix}
use Rattle.hyper_matrix.proofs.MatrixLaws.{len-built}
use Rattle.hyper_matrix.proofs.hyper.Hyper.entries.Goals as goal

pub returns : goal.returns
returns c = c.len.ensures ∙ sym (len-built c.self.inside.piece c.self.invariant.rises) ∙
    ap (λ (m : Matrix). len m.counts) c.self.view_is
