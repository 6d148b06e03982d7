use Rattle.crc32c.proofs.OddChanges.{odd_found}
use Rattle.crc32c.proofs.laws.odd_changes_are_found.Goals as goal

pub returns : goal.returns
returns c = odd_found
