use Rattle.std.proofs.Common.{◌||◌, is_some, sym, ap, ◌∙◌, arith}
use Rattle.std.specs.Arc.{arc_value}
use Rattle.std.specs.FinMap.{get}
use Rattle.hyper_matrix.specs.Counts.{Place}
use Rattle.hyper_matrix.specs.Matrix.{Matrix}
use Rattle.layer_cascade.proofs.RowEntryLemmas.{one_asked, none_asked}
use Rattle.layer_cascade.proofs.row_entries.runs_have.Goals as goal
use Rattle.layer_cascade.proofs.row_entries.runs_have.Goals.{then-have, else-have}

pub runs-init : goal.runs-init
runs-init c = none_asked (c.args.row, c.args.col)

pub runs-preserved : goal.runs-preserved
runs-preserved c =
    let q : Place = (c.args.row, c.args.col) in
    let item = c.run-item.result in
    let here = is_some (get (arc_value item).counts q) in
    one_asked c.args.runs.now c.runs.run-index item q (omega arith) c.run-item.is c.runs.have c.if-have.have
    c.runs.invariant (elim c.if-have.branch [
      | then-have w ↦ w.have-is ∙ w.if-have.true ∙ sym (ap (λ b. b || here) w.if-have.true)
      | else-have w ↦
          w.have-is ∙ w.is_some-have.ensures ∙ ap is_some w.get.ensures.value
          ∙ ap (λ (m : Matrix). is_some (get m.counts q)) w.deref.ensures
          ∙ sym (ap (λ b. b || here) w.if-have.false)
    ])
