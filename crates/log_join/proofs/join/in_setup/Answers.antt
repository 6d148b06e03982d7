use Rattle.std.proofs.Common.{◌∙◌, ap, sym}
use Rattle.batch_store.specs.Growth.{widened}
use Rattle.batch_store.proofs.GrowthLaws.{widened_same}
use Rattle.log_join.proofs.join.in_setup.Goals as goal

pub returns-then-has_dims : goal.returns-then-has_dims
returns-then-has_dims c =
    let dims = c.has_dims.ensures c.if-has_dims.true in
    c.in_ok-shared.ensures ∙ sym c.deref.ensures
    ∙ sym (widened_same c.args.setup.now c.deref.result.now dims.0 dims.1)
    ∙ ap (widened c.args.setup.now) c.deref.ensures
