use Rattle.wire_proto.proofs.AskLemmas.{row_answered}
use Rattle.wire_proto.proofs.asking.ask_row.Goals as goal

pub returns-clause-reply : goal.returns-clause-reply
returns-clause-reply g c = row_answered _ _ _ _ _ _ _ (rw (
  ← c.setup.ensures,
  ← c.rows.ensures.value,
) c.if-row-rows.false) c.row.ensures.gives c.row_sum.ensures
