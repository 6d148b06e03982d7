use Rattle.log_lives.proofs.FirstLife.{first_life}
use Rattle.log_lives.proofs.lives.an_acknowledged_batch_outlives_a_loss_of_power.Goals as goal

pub returns : goal.returns
returns c limit most b fresh = first_life limit most b fresh
