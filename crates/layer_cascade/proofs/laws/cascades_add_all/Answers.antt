use Rattle.layer_cascade.proofs.CascadeLaws.{content-cascades}
use Rattle.layer_cascade.proofs.laws.cascades_add_all.Goals as goal

pub returns : goal.returns
returns c = content-cascades
