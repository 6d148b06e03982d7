use Rattle.wire_proto.proofs.AskLemmas.{cell_answered}
use Rattle.wire_proto.proofs.asking.ask_cell.Goals as goal

pub returns-clause-reply : goal.returns-clause-reply
returns-clause-reply g c = cell_answered _ _ _ _ _ _ _ _ (rw
    (← c.setup-setup.ensures, ← c.rows.ensures.value) c.if-row-rows.false)
    (rw (← c.setup-setup.ensures, ← c.cols.ensures.value) c.if-col-cols.false) c.cell.ensures.gives c.value.ensures
