use Rattle.pending_layers.proofs.PendingLemmas.{total_kept, total_fits}
use Rattle.pending_layers.proofs.pending.PendingLayers.total.Goals as goal

pub returns-clause-value : goal.returns-clause-value
returns-clause-value c = total_kept _ _ _ c.args.self.now c.self.invariant c.self.view_is

pub returns-clause-fits : goal.returns-clause-fits
returns-clause-fits c = total_fits _ _ _ c.args.self.now c.self.invariant c.self.view_is
