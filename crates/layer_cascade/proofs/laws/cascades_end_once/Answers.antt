use Rattle.layer_cascade.proofs.CascadeLaws.{cascades_to-cascade}
use Rattle.layer_cascade.proofs.laws.cascades_end_once.Goals as goal

pub returns : goal.returns
returns c = cascades_to-cascade
