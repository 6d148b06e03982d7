use Rattle.log_join.proofs.OutcomeLaws.{goes_on}
use Rattle.log_join.proofs.laws.joined_lists_go_on.Goals as goal

pub returns : goal.returns
returns c = goes_on
