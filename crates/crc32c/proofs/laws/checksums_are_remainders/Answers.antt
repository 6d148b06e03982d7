use Rattle.crc32c.proofs.DivisionLaws.{checksum_divided}
use Rattle.crc32c.proofs.laws.checksums_are_remainders.Goals as goal

pub returns : goal.returns
returns c = checksum_divided
