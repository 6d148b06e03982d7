use Rattle.crc32c.proofs.Pairs.{pair_found}
use Rattle.crc32c.proofs.laws.pairs_are_found.Goals as goal

pub returns : goal.returns
returns c = pair_found
