use Rattle.plain_engine.proofs.LockedLaws.{put_is_run}
use Rattle.plain_engine.proofs.world.puts_are_locked_runs.Goals as goal

pub returns : goal.returns
returns c = put_is_run
