use Rattle.stored_log.proofs.Promises.{group_held}
use Rattle.stored_log.proofs.laws.promised_pages_hold_groups.Goals as goal

pub returns : goal.returns
returns c = group_held
