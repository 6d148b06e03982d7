use Rattle.crc32c.proofs.Bursts.{burst_found}
use Rattle.crc32c.proofs.laws.bursts_are_found.Goals as goal

pub returns : goal.returns
returns c = burst_found
