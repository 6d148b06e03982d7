use Rattle.std.proofs.Common.{[], List, sym, subst, ◌∙◌}
use Rattle.std.specs.Arc.{arc_value}
use Rattle.hyper_matrix.specs.Matrix.{Matrix}
use Rattle.batch_store.specs.declared.verdict.Entry.{Entry}
use Rattle.batch_store.specs.Accepted.{IsBase}
use Rattle.batch_store.proofs.BookLaws.{accepted_none}
use Rattle.socket_server.proofs.load.empty_list.Goals as goal

pub returns-in_default-clause-accepted : goal.returns-in_default-clause-accepted
returns-in_default-clause-accepted c = accepted_none c.args.setup.now c.rows.ensures.kept

-- nothing is folded, and the base is empty
pub invariant_of-result : goal.invariant_of-result
invariant_of-result c =
    subst (λ (es : List Entry). IsBase (arc_value c.in-Ok.base).whole.counts es) (sym c.new.ensures.items)
    (subst (λ (m : Matrix). IsBase m.counts []) (sym (c.in-Ok.ensures ∙ c.new-base.ensures))
    (accepted_none c.args.setup.now c.rows.ensures.kept).based)

pub returns-clause-accepted : goal.returns-clause-accepted
returns-clause-accepted c = accepted_none c.args.setup.now c.rows.ensures.kept
