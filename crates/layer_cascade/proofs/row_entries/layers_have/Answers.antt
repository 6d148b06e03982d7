use Rattle.std.proofs.Common.{◌||◌, is_some, sym, ap, ◌∙◌, arith}
use Rattle.std.specs.Arc.{arc_value}
use Rattle.std.specs.FinMap.{get}
use Rattle.hyper_matrix.specs.Counts.{Place, Counts}
use Rattle.hyper_matrix.specs.Matrix.{Matrix}
use Rattle.layer_cascade.proofs.RowEntryLemmas.{one_asked, none_asked}
use Rattle.layer_cascade.proofs.row_entries.layers_have.Goals as goal
use Rattle.layer_cascade.proofs.row_entries.layers_have.Goals.{then-have, else-have}

pub layers-init : goal.layers-init
layers-init c = none_asked (c.args.row, c.args.col)

pub layers-preserved : goal.layers-preserved
layers-preserved c =
    let q : Place = (c.args.row, c.args.col) in
    let item = c.layer-item.result in
    let here = is_some (get (arc_value item).counts q) in
    one_asked c.args.layers.now c.layers.layer-index item q (omega arith) c.layer-item.is c.layers.have c.if-have.have
    c.layers.invariant (elim c.if-have.branch [
      | then-have w ↦ w.have-is ∙ w.if-have.true ∙ sym (ap (λ b. b || here) w.if-have.true)
      | else-have w ↦
          w.have-is ∙ w.runs_have-have.ensures ∙ sym (ap (λ (m : Counts). is_some (get m q)) w.runs.ensures.sum)
          ∙ ap (λ (m : Matrix). is_some (get m.counts q)) w.deref.ensures
          ∙ sym (ap (λ b. b || here) w.if-have.false)
    ])
